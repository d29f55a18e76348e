-- The objects of a type among the first of all objects.
use Rattle.std.proofs.Common.{◌≡◌, ℕ, ◌+◌, ◌<◌, Bool, true, false, List, [], ◌∷◌, ◌++◌, length, map, get_or, cond, ap, sym, ◌∙◌, arith, refl}
use Rattle.std.specs.Prelude.{slice_index}
use Rattle.std.specs.List.{filter, range_with_len}
use Rattle.std.proofs.lemmas.List.{append-nil, map-append, map-id, get_or-map}
use Rattle.std.proofs.lemmas.List.FromFn.{filter_of_map_range_with_len_more}
use Rattle.stp_base.specs.declared.ids.ObjectId.{ObjectId}
use Rattle.stp_types.specs.Forest.{is_below}
use Rattle.stp_schema.specs.Rows.{thing_of}
use Rattle.stp_schema.specs.declared.rows.ObjectRow.{ObjectRow}
use Rattle.stp_instance.specs.Bindings.{numbers_of}

-- those of the first so many numbers that pass a test
abbrev pub passing : (ℕ → Bool) → ℕ → List ℕ
passing test n = filter test (range_with_len 0 n)

passing_more : (test : ℕ → Bool) (n : ℕ) → passing test (n + 1) ≡ passing test n ++ cond (test n) (n ∷ []) []
passing_more test n =
    ap (filter test) (sym (map-id (range_with_len 0 (n + 1))))
    ∙ filter_of_map_range_with_len_more test (λ k. k) 0 n n (omega arith)
    ∙ ap (λ l. filter test l ++ cond (test n) (n ∷ []) []) (map-id (range_with_len 0 n))

pub one_passes : (test : ℕ → Bool) (n : ℕ) (found : List ObjectId) → test n ≡ true → numbers_of found ≡ passing test n → numbers_of (found ++ record { 0 = n } ∷ []) ≡ passing test (n + 1)
one_passes test n found e so_far =
    map-append (λ (o : ObjectId). o.0) found (record { 0 = n } ∷ [])
    ∙ ap (λ l. l ++ n ∷ []) so_far
    ∙ ap (λ b. passing test n ++ cond b (n ∷ []) []) (sym e)
    ∙ sym (passing_more test n)

pub one_fails : (test : ℕ → Bool) (n : ℕ) (found : List ObjectId) → test n ≡ false → numbers_of found ≡ passing test n → numbers_of found ≡ passing test (n + 1)
one_fails test n found e so_far =
    so_far
    ∙ sym (append-nil (passing test n))
    ∙ ap (λ b. passing test n ++ cond b (n ∷ []) []) (sym e)
    ∙ sym (passing_more test n)

-- the type of an object by its number
abbrev pub kind_at : List ObjectRow → ℕ → ℕ
kind_at objects n = slice_index (map (λ o. o.kind) (map thing_of objects)) n

kinds_are : (objects : List ObjectRow) → map (λ o. o.kind) (map thing_of objects) ≡ map (λ o. o.kind) objects
kinds_are [] = refl
kinds_are (o ∷ os) = ap (λ l. o.kind ∷ l) (kinds_are os)

pub kind_is : (objects : List ObjectRow) (n : ℕ) (d : ObjectRow) → n < length objects → kind_at objects n ≡ (get_or objects n d).kind
kind_is objects n d h = ap (λ l. get_or l n 0) (kinds_are objects) ∙ get_or-map (λ o. o.kind) objects n d 0 h

pub below_is : (parents : List ℕ) (objects : List ObjectRow) (n kind : ℕ) (d : ObjectRow) (b c : Bool) → n < length objects → b ≡ is_below parents (get_or objects n d).kind kind → b ≡ c → is_below parents (kind_at objects n) kind ≡ c
below_is parents objects n kind d b c h e f = ap (λ k. is_below parents k kind) (kind_is objects n d h) ∙ sym e ∙ f
