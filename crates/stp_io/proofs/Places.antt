-- The first file of a name, by its place.
use Rattle.std.proofs.Common.{◌≡◌, ◌+◌, ◌<◌, ℕ, zero, suc, Bool, true, false, cond, List, [], ◌∷◌, ◌++◌, length, Option, Some, None, refl, sym, ap, ◌∙◌, arith, get_or, bytes_eq, inl, inr, unwrap_or}
use Rattle.std.proofs.Math.ListN.{set}
use Rattle.std.proofs.Math.Path.{fun_ext}
use Rattle.std.specs.List.{position, position_from}
use Rattle.std.proofs.lemmas.Slice.Eq.{bytes_eq-Decides}
use Rattle.std.proofs.lemmas.Bool.{cases_Bool, false≢true}
use Rattle.std.proofs.lemmas.Iterator.Adapters.{position_from-zero}
use Rattle.std.proofs.lemmas.List.Quantifiers.{position-Some}
use Rattle.stp_io.specs.Named.{file_of, put_at}
use Rattle.stp_io.specs.Steady.{SteadyState, content_of}
use Rattle.stp_io.specs.declared.named.NamedFile.{NamedFile}

abbrev pub is_named : List ℕ → NamedFile → Bool
is_named name f = bytes_eq f.name name

-- a file of the name comes first at i
pub record FirstAt (fs : List NamedFile) (name : List ℕ) (i : ℕ) (d : NamedFile) : Type 0 where
  pub within : i < length fs
  pub here : is_named name (get_or fs i d) ≡ true
  pub before : (k : ℕ) → k < i → is_named name (get_or fs k d) ≡ false

pub first_from_position : (fs : List NamedFile) (name : List ℕ) (i : ℕ) (d : NamedFile) → position (is_named name) fs ≡ Some i → FirstAt fs name i d
first_from_position fs name i d h = let s = position-Some (is_named name) fs i d h in record { within = s.0; here = s.1; before = s.2 }

pub first_in_rest : (f : NamedFile) (fs : List NamedFile) (name : List ℕ) (i : ℕ) (d : NamedFile) → FirstAt (f ∷ fs) name (suc i) d → FirstAt fs name i d
first_in_rest f fs name i d h = record { within = omega (arith, h.within); here = h.here; before = λ k less. h.before (suc k) (omega arith) }

-- the file at the first place of a name is the file of the name
pub file_of_first : (fs : List NamedFile) (name : List ℕ) (i : ℕ) (d : NamedFile) → FirstAt fs name i d → file_of fs name ≡ Some (get_or fs i d).bytes
file_of_first [] name i d h = absurd (omega (arith, h.within))
file_of_first (f ∷ fs) name zero d h = rw h.here refl
file_of_first (f ∷ fs) name (suc i) d h = rw (h.before 0 (omega arith)) (file_of_first fs name i d (first_in_rest f fs name i d h))

-- a list with no place of a name has no file of it
pub file_of_unplaced : (fs : List NamedFile) (name : List ℕ) (i : ℕ) → position_from (is_named name) i fs ≡ None → file_of fs name ≡ None
file_of_unplaced [] name i h = refl
file_of_unplaced (f ∷ fs) name i h =
    elim (cases_Bool (is_named name f)) [
      | inl named ↦ absurd (let e = rw named at h in cc)
      | inr other ↦ rw other (file_of_unplaced fs name (i + 1) (rw other at h))
    ]

pub file_of_none : (fs : List NamedFile) (name : List ℕ) → position (is_named name) fs ≡ None → file_of fs name ≡ None
file_of_none fs name h = file_of_unplaced fs name 0 (sym (position_from-zero (is_named name) fs) ∙ h)

-- a text that is like one of two that differ is not like the other
pub unlike : (a b n : List ℕ) → bytes_eq a b ≡ false → bytes_eq a n ≡ true → bytes_eq b n ≡ false
unlike a b n differ same =
    elim (cases_Bool (bytes_eq b n)) [
      | inl too ↦ absurd (false≢true (sym differ ∙ (bytes_eq-Decides a b).1 ((bytes_eq-Decides a n).0 same ∙ sym ((bytes_eq-Decides b n).0 too))))
      | inr not ↦ not
    ]

-- a file of another name in front changes nothing of this one's
pub past_other : (f : NamedFile) (name n : List ℕ) (file new rest : Option (List ℕ)) → is_named name f ≡ false → rest ≡ cond (bytes_eq name n) new file
    → cond (bytes_eq f.name n) (Some f.bytes) rest ≡ cond (bytes_eq name n) new (cond (bytes_eq f.name n) (Some f.bytes) file)
past_other f name n file new rest other h =
    elim (cases_Bool (bytes_eq f.name n)) [
      | inl same ↦ rw (same, unlike f.name name n other same) refl
      | inr not ↦ rw not h
    ]

-- a file put at the end, where none has its name
pub file_of_push : (fs : List NamedFile) (new : NamedFile) (n : List ℕ) → file_of fs new.name ≡ None → file_of (fs ++ new ∷ []) n ≡ put_at new.name (Some new.bytes) (file_of fs) n
file_of_push [] new n h = refl
file_of_push (f ∷ fs) new n h =
    elim (cases_Bool (is_named new.name f)) [
      | inl named ↦ absurd (let e = rw named at h in cc)
      | inr other ↦ past_other f new.name n (file_of fs n) (Some new.bytes) (file_of (fs ++ new ∷ []) n) other (file_of_push fs new n (rw other at h))
    ]

pub with_first : (a : Bool) (x y z : Option (List ℕ)) → cond a x z ≡ cond a x (cond a y z)
with_first a x y z = elim a as (λ b. cond b x z ≡ cond b x (cond b y z)) [ true ↦ refl | false ↦ refl ]

-- a file put in the place of the first of its name
pub file_of_set : (fs : List NamedFile) (new : NamedFile) (i : ℕ) (d : NamedFile) (n : List ℕ) → FirstAt fs new.name i d → file_of (set fs i new) n ≡ put_at new.name (Some new.bytes) (file_of fs) n
file_of_set [] new i d n h = absurd (omega (arith, h.within))
file_of_set (f ∷ fs) new zero d n h =
    rw ((bytes_eq-Decides f.name new.name).0 h.here) (with_first (bytes_eq new.name n) (Some new.bytes) (Some f.bytes) (file_of fs n))
file_of_set (f ∷ fs) new (suc i) d n h =
    past_other f new.name n (file_of fs n) (Some new.bytes) (file_of (set fs i new) n) (h.before 0 (omega arith)) (file_of_set fs new i d n (first_in_rest f fs new.name i d h))

-- what the list leads to at a place that `position` gave, and after a write there or at the end
pub found : (fs now : List NamedFile) (name : List ℕ) (r : Option ℕ) (i : ℕ) (d : NamedFile) → fs ≡ now → r ≡ position (is_named name) now → r ≡ Some i → file_of now name ≡ Some (get_or fs i d).bytes
found fs now name r i d same h is = ap (λ xs. file_of xs name) (sym same) ∙ file_of_first fs name i d (first_from_position fs name i d (ap (position (is_named name)) same ∙ sym h ∙ is))

pub not_found : (now : List NamedFile) (name : List ℕ) (r : Option ℕ) → r ≡ position (is_named name) now → r ≡ None → file_of now name ≡ None
not_found now name r h is = file_of_none now name (sym h ∙ is)

abbrev pub named_file : List ℕ → List ℕ → NamedFile
named_file name bytes = record { name = name; bytes = bytes }

pub put_over : (fs now : List NamedFile) (name bytes b : List ℕ) (r : Option ℕ) (i : ℕ) (d : NamedFile) → fs ≡ now → r ≡ position (is_named name) now → r ≡ Some i → d ≡ get_or fs i d → b ≡ bytes
    → file_of (set fs i (named_file d.name b)) ≡ put_at name (Some bytes) (file_of now)
put_over fs now name bytes b r i d same h is here e =
    let first : FirstAt fs name i d = first_from_position fs name i d (ap (position (is_named name)) same ∙ sym h ∙ is) in
    let names : d.name ≡ name = (bytes_eq-Decides d.name name).0 (ap (is_named name) here ∙ first.here) in
    ap (λ (x : List ℕ). file_of (set fs i (named_file x b))) names
    ∙ ap (λ (x : List ℕ). file_of (set fs i (named_file name x))) e
    ∙ fun_ext (λ n. file_of_set fs (named_file name bytes) i d n first)
    ∙ ap (λ (xs : List NamedFile). put_at name (Some bytes) (file_of xs)) same

pub put_last : (fs now list : List NamedFile) (name bytes m b : List ℕ) (r : Option ℕ) → list ≡ fs ++ named_file m b ∷ [] → fs ≡ now → r ≡ position (is_named name) now → r ≡ None → m ≡ name → b ≡ bytes
    → file_of list ≡ put_at name (Some bytes) (file_of now)
put_last fs now list name bytes m b r longer same h is names e =
    ap file_of longer
    ∙ ap (λ (xs : List NamedFile). file_of (xs ++ named_file m b ∷ [])) same
    ∙ ap (λ (x : List ℕ). file_of (now ++ named_file x b ∷ [])) names
    ∙ ap (λ (x : List ℕ). file_of (now ++ named_file name x ∷ [])) e
    ∙ fun_ext (λ n. file_of_push now (named_file name bytes) n (not_found now name r h is))

abbrev contents : (List ℕ → Option (List ℕ)) → List ℕ → List ℕ
contents f n = unwrap_or (f n) []

-- the bytes of names, none where there is no file, after one file was put
pub content_put : (old new : SteadyState) (name bytes : List ℕ) → file_of new.files ≡ put_at name (Some bytes) (file_of old.files) → content_of new ≡ put_at name bytes (content_of old)
content_put old new name bytes h =
    ap contents h
    ∙ fun_ext (λ n. elim (bytes_eq name n) as (λ b. unwrap_or (cond b (Some bytes) (file_of old.files n)) [] ≡ cond b bytes (content_of old n)) [ true ↦ refl | false ↦ refl ])
