use Rattle.std.proofs.Common.{◌≡◌, ◌∷◌, ◌++◌, [], rules, get_or}
use Rattle.stp_io.proofs.Places.{put_over, put_last, named_file}
use Rattle.stp_io.proofs.named.NamedFiles.put.Goals as goal

pub returns-in-Some-clause-ok : goal.returns-in-Some-clause-ok
returns-in-Some-clause-ok c =
    let e : c.in_ok-bytes.bytes ≡ c.args.bytes.now = search rules in
    let here : c.index_mut.result.now ≡ get_or c.self.inside.list.items c.in-Some.place c.index_mut.result.now = search rules in
    put_over c.self.inside.list.items c.args.self.now c.args.name.now c.args.bytes.now c.in_ok-bytes.bytes c.place.result c.in-Some.place c.index_mut.result.now c.self.view_is c.place.ensures c.in-Some.is here e

pub returns-in_ok-push-in-None-clause-ok : goal.returns-in_ok-push-in-None-clause-ok
returns-in_ok-push-in-None-clause-ok c =
    let longer : c.push.new.self.items ≡ c.self.inside.list.items ++ named_file c.in_ok-name-in-None.name c.in_ok-bytes.bytes ∷ [] = search rules in
    let names : c.in_ok-name-in-None.name ≡ c.args.name.now = search rules in
    let e : c.in_ok-bytes.bytes ≡ c.args.bytes.now = search rules in
    put_last c.self.inside.list.items c.args.self.now c.push.new.self.items c.args.name.now c.args.bytes.now c.in_ok-name-in-None.name c.in_ok-bytes.bytes c.place.result longer c.self.view_is c.place.ensures c.in-None.is names e
