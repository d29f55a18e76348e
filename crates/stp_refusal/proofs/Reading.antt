-- Readers that go on from what was found, and loops that read lists.
use Rattle.std.proofs.Common.{◌≡◌, List, [], ◌∷◌, ◌++◌, Option, refl, ap, sym, ◌∙◌, append_assoc}
use Rattle.std.proofs.lemmas.List.{append-nil}
use Rattle.stp_refusal.specs.declared.offence.Offence.{Offence}
use Rattle.stp_refusal.specs.First.{first_from, earlier}
use Rattle.stp_refusal.specs.Read.{Read, IsRead, Continues, cons_read, fine, map_read, pair_read, also}

pub first_from-append : (found : Option Offence) (xs ys : List Offence) → first_from found (xs ++ ys) ≡ first_from (first_from found xs) ys
first_from-append found [] ys = refl
first_from-append found (x ∷ xs) ys = first_from-append (earlier found x) xs ys

-- what is read after something else was read
pub finds_after : (old middle new : Option Offence) (xs ys : List Offence) → middle ≡ first_from old xs → new ≡ first_from middle ys → new ≡ first_from old (xs ++ ys)
finds_after old middle new xs ys h k = k ∙ ap (λ f. first_from f ys) h ∙ sym (first_from-append old xs ys)

-- ---- values that are made of others

pub mapped : {A B : Type 0} (f : A → B) (old new : Option Offence) (a : A) (b : B) (r : Read A) → b ≡ f a → IsRead old new a r → IsRead old new b (map_read f r)
mapped f old new a b r e h = record { first = h.first; same = e ∙ ap f h.same }

pub paired : {A B C : Type 0} (f : A → B → C) (old middle new : Option Offence) (a : A) (b : B) (c : C) (r : Read A) (s : Read B) → c ≡ f a b → IsRead old middle a r → IsRead middle new b s → IsRead old new c (pair_read f r s)
paired f old middle new a b c r s e h k = record {
  first = finds_after old middle new r.offences s.offences h.first k.first;
  same = e ∙ ap (λ x. f x b) h.same ∙ ap (f r.value) k.same;
}

pub also_is : {A : Type 0} (wrong : A → List Offence) (old middle new : Option Offence) (value : A) (r : Read A) → IsRead old middle value r → new ≡ first_from middle (wrong value) → IsRead old new value (also wrong r)
also_is wrong old middle new value r h e = record {
  first = e ∙ ap (λ v. first_from middle (wrong v)) h.same ∙ ap (λ f. first_from f (wrong r.value)) h.first ∙ sym (first_from-append old r.offences (wrong r.value));
  same = h.same;
}

-- ---- loops

pub continues_next : {A : Type 0} {old found new : Option Offence} {out : List A} {value : A} {one : Read A} {rest whole : Read (List A)} → Continues old found out (cons_read one rest) whole → IsRead found new value one → Continues old new (out ++ value ∷ []) rest whole
continues_next {old = old} {found = found} {new = new} {out = out} {value = value} {one = one} {rest = rest} {whole = whole} so_far step = record {
  first = ap (λ f. first_from f rest.offences) step.first ∙ sym (first_from-append found one.offences rest.offences) ∙ so_far.first;
  same = append_assoc out (value ∷ []) rest.value ∙ ap (λ v. out ++ (v ∷ rest.value)) step.same ∙ so_far.same;
}

pub continues_done : {A : Type 0} {old found : Option Offence} {out : List A} {whole : Read (List A)} → Continues old found out (fine []) whole → IsRead old found out whole
continues_done {out = out} so_far = record { first = so_far.first; same = sym (append-nil out) ∙ so_far.same }
