use Rattle.std.proofs.Common.{ap, sym}
use Rattle.std.proofs.lemmas.List.Sums.{prefix_len-le-length}
use Rattle.stp_text.specs.Bytes.{is_comment_byte}
use Rattle.stp_text.proofs.Lexing.{past_comment}
use Rattle.stp_text.proofs.Taking.{Place}
use Rattle.stp_text.proofs.reader.Reader.skip_comment.Goals as goal

pub skip-requires : goal.skip-requires
skip-requires c = rw (c.comment_length.ensures, ap (λ (r : Place). r.1) c.skip.view_is) (prefix_len-le-length is_comment_byte _)

pub returns-clause-same : goal.returns-clause-same
returns-clause-same c = rw (c.skip-2.ensures, c.comment_length.ensures, ap (λ (r : Place). r.1) c.skip.view_is) (sym (past_comment c.args.self.now.0 c.args.self.now.1))
