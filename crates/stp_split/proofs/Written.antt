-- What ends that have come leave at an atom.
use Rattle.std.proofs.Common.{◌≡◌, ℕ, ◌==◌, Bool, true, false, not, ◌&&◌, ◌||◌, cond, List, Contains, ◌⊎◌, inl, inr, refl, ap, sym, ◌∙◌, arith, true≢false}
use Rattle.std.specs.List.{list_any}
use Rattle.std.proofs.lemmas.Bool.{cases_Bool}
use Rattle.std.proofs.lemmas.Bool.Decides.{nat_tests}
use Rattle.stp_cond.specs.declared.cond.Cond.{Cond}
use Rattle.stp_cond.specs.Atoms.{has, changed_by}
use Rattle.stp_cond.specs.Truth.{truth}
use Rattle.stp_cond.proofs.Reading.{truth_reads_its_atoms}
use Rattle.stp_cond.proofs.Rising.{has_from_Contains}
use Rattle.stp_cond.proofs.Shapes.{reads_are_of_shape}
use Rattle.stp_happen.proofs.Members.{same_tests, and_left, and_right, and_both, passing_member, any_passes, all_pass, kept_member, member_of_kept}
use Rattle.stp_window.specs.Windows.{Point}
use Rattle.stp_window.specs.Certain.{sets}
use Rattle.stp_split.specs.Cases.{written, AreCases, without_step, atoms_read, turns_at, turns}

-- ---- formulas read their atoms alone

pub truth_alike : (c : Cond) (s t : ℕ → Bool) → ((a : ℕ) → has (atoms_read c) a ≡ true → s a ≡ t a) → truth s c ≡ truth t c
truth_alike c s t same = truth_reads_its_atoms (has (atoms_read c)) s t c (reads_are_of_shape (has (atoms_read c)) c ∙ all_pass (has (atoms_read c)) (atoms_read c) (λ a i. has_from_Contains (atoms_read c) a i)) same

-- ---- writers

pub sets_by_adding : (p : Point) (a : ℕ) → has p.event.adds a ≡ true → sets p a ≡ true
sets_by_adding p a h = by (has p.event.adds a) (has p.event.dels a) h
  where
    by : (b c : Bool) → b ≡ true → (b || c) ≡ true
    by b c h = grind arith

-- where a writer has come, the atom has its way
pub written_by : (ends : List Point) → AreCases ends → (came : Point → Bool) (state : ℕ → Bool) (a : ℕ) (p : Point) → Contains ends p → came p ≡ true → sets p a ≡ true → written ends came state a ≡ has p.event.adds a
written_by ends cases came state a p i h s =
    ap (λ b. cond b (list_any (λ q. came q && has q.event.adds a) ends) (state a)) (any_passes (λ q. came q && sets q a) ends p i (and_both (came p) (sets p a) h s))
    ∙ same_tests (list_any (λ q. came q && has q.event.adds a) ends) (has p.event.adds a)
    (λ e.
    let r = passing_member (λ q. came q && has q.event.adds a) ends e in
    let adds = and_right (came r.0) (has r.0.event.adds a) r.2 in
    sym (cases.alike a r.0 p r.1 i (sets_by_adding r.0 a adds) s) ∙ adds)
    (λ e. any_passes (λ q. came q && has q.event.adds a) ends p i (and_both (came p) (has p.event.adds a) h e))

-- where none has come, it is as it was
pub written_by_none : (ends : List Point) (came : Point → Bool) (state : ℕ → Bool) (a : ℕ) → list_any (λ q. came q && sets q a) ends ≡ false → written ends came state a ≡ state a
written_by_none ends came state a e = ap (λ b. cond b (list_any (λ q. came q && has q.event.adds a) ends) (state a)) e

pub no_writer : (ends : List Point) (came : Point → Bool) (a : ℕ) → ((p : Point) → Contains ends p → came p ≡ true → sets p a ≡ true → ⊥) → list_any (λ q. came q && sets q a) ends ≡ false
no_writer ends came a none = elim (cases_Bool (list_any (λ q. came q && sets q a) ends)) [
  | inl e ↦ let r = passing_member (λ q. came q && sets q a) ends e in absurd (none r.0 r.1 (and_left (came r.0) (sets r.0 a) r.2) (and_right (came r.0) (sets r.0 a) r.2))
  | inr e ↦ e
]

-- a writer that has come, or none
data WriterCome (ends : List Point) (came : Point → Bool) (a : ℕ) : Type 0 where
  ByWriter : (p : Point) → Contains ends p → came p ≡ true → sets p a ≡ true → WriterCome ends came a
  NoWriter : list_any (λ q. came q && sets q a) ends ≡ false → WriterCome ends came a

writer_come : (ends : List Point) (came : Point → Bool) (a : ℕ) → WriterCome ends came a
writer_come ends came a = elim (cases_Bool (list_any (λ q. came q && sets q a) ends)) [
  | inl e ↦ let r = passing_member (λ q. came q && sets q a) ends e in ByWriter r.0 r.1 (and_left (came r.0) (sets r.0 a) r.2) (and_right (came r.0) (sets r.0 a) r.2)
  | inr e ↦ NoWriter e
]

not_any : (ends : List Point) (came : Point → Bool) (a : ℕ) → list_any (λ q. came q && sets q a) ends ≡ false → (p : Point) → Contains ends p → came p ≡ true → sets p a ≡ true → ⊥
not_any ends came a e p i h s = true≢false (sym (any_passes (λ q. came q && sets q a) ends p i (and_both (came p) (sets p a) h s)) ∙ e)

-- ---- choices that are alike

-- choices that agree on the writers of an atom leave the same
pub written_alike : (ends : List Point) → AreCases ends → (c d : Point → Bool) (state : ℕ → Bool) (a : ℕ) → ((p : Point) → Contains ends p → c p ≡ d p) → written ends c state a ≡ written ends d state a
written_alike ends cases c d state a same = by_writer ends cases c d state a same (writer_come ends c a)
  where
    by_writer : (ends : List Point) → AreCases ends → (c d : Point → Bool) (state : ℕ → Bool) (a : ℕ) → ((p : Point) → Contains ends p → c p ≡ d p) → WriterCome ends c a → written ends c state a ≡ written ends d state a
    by_writer ends cases c d state a same (ByWriter p i h s) = written_by ends cases c state a p i h s ∙ sym (written_by ends cases d state a p i (sym (same p i) ∙ h) s)
    by_writer ends cases c d state a same (NoWriter e) = written_by_none ends c state a e ∙ sym (written_by_none ends d state a (no_writer ends d a (λ p i h s. not_any ends c a e p i (same p i ∙ h) s)))

stays_at : (p : Point) (state : ℕ → Bool) (a : ℕ) → sets p a ≡ true → turns_at p state a ≡ false → has p.event.adds a ≡ state a
stays_at p state a s h = by (has p.event.adds a) (has p.event.dels a) (state a) s h
  where
    by : (x d b : Bool) → (x || d) ≡ true → cond x (not b) (d && b) ≡ false → x ≡ b
    by true d true s h = refl
    by true d false s h = absurd (true≢false h)
    by false true true s h = absurd (true≢false h)
    by false true false s h = refl
    by false false b s h = absurd (true≢false (sym s))

-- more ends that write only what is there already leave the same
pub written_more : (ends : List Point) → AreCases ends → (c d : Point → Bool) (state : ℕ → Bool) (a : ℕ) → ((p : Point) → Contains ends p → c p ≡ true → d p ≡ true) →
    ((p : Point) → Contains ends p → d p ≡ true → (c p ≡ true) ⊎ (turns_at p state a ≡ false)) → written ends d state a ≡ written ends c state a
written_more ends cases c d state a less more = by_few ends cases c d state a less more (writer_come ends c a)
  where
    by_many : (ends : List Point) → AreCases ends → (c d : Point → Bool) (state : ℕ → Bool) (a : ℕ) → ((p : Point) → Contains ends p → d p ≡ true → (c p ≡ true) ⊎ (turns_at p state a ≡ false)) →
        list_any (λ q. c q && sets q a) ends ≡ false → WriterCome ends d a → written ends d state a ≡ state a
    by_many ends cases c d state a more e (ByWriter p i h s) = written_by ends cases d state a p i h s ∙ elim (more p i h) [ inl k ↦ absurd (not_any ends c a e p i k s) | inr k ↦ stays_at p state a s k ]
    by_many ends cases c d state a more e (NoWriter f) = written_by_none ends d state a f

    by_few : (ends : List Point) → AreCases ends → (c d : Point → Bool) (state : ℕ → Bool) (a : ℕ) → ((p : Point) → Contains ends p → c p ≡ true → d p ≡ true) →
        ((p : Point) → Contains ends p → d p ≡ true → (c p ≡ true) ⊎ (turns_at p state a ≡ false)) → WriterCome ends c a → written ends d state a ≡ written ends c state a
    by_few ends cases c d state a less more (ByWriter p i h s) = written_by ends cases d state a p i (less p i h) s ∙ sym (written_by ends cases c state a p i h s)
    by_few ends cases c d state a less more (NoWriter e) = by_many ends cases c d state a more e (writer_come ends d a) ∙ sym (written_by_none ends c state a e)

-- ---- one end less

is_other : (m n : ℕ) → (m ≡ n → ⊥) → not (m == n) ≡ true
is_other m n h = grind (arith, nat_tests)

pub other_told : (m n : ℕ) → not (m == n) ≡ true → m ≡ n → ⊥
other_told m n h e = grind (arith, nat_tests)

pub rest_within : (n : ℕ) (ends : List Point) (p : Point) → Contains (without_step n ends) p → Contains ends p × (p.step ≡ n → ⊥)
rest_within n ends p i = let r = member_of_kept (λ q. not (q.step == n)) ends p i in (r.0, other_told p.step n r.1)

pub rest_cases : (n : ℕ) (ends : List Point) → AreCases ends → AreCases (without_step n ends)
rest_cases n ends cases = record {
  one_each = λ p q i j e. cases.one_each p q (rest_within n ends p i).0 (rest_within n ends q j).0 e;
  alike = λ a p q i j s r. cases.alike a p q (rest_within n ends p i).0 (rest_within n ends q j).0 s r;
}

in_rest : (ends : List Point) → AreCases ends → (p q : Point) → Contains ends p → Contains ends q → (q ≡ p → ⊥) → Contains (without_step p.step ends) q
in_rest ends cases p q i j other = kept_member (λ r. not (r.step == p.step)) ends q j (is_other q.step p.step (λ e. other (cases.one_each q p j i e)))

-- an end that has not come
pub written_stayed : (ends : List Point) → AreCases ends → (came : Point → Bool) (state : ℕ → Bool) (a : ℕ) (p : Point) → Contains ends p → came p ≡ false → written ends came state a ≡ written (without_step p.step ends) came state a
written_stayed ends cases came state a p i h = by_writer ends cases came state a p i h (writer_come ends came a)
  where
    by_writer : (ends : List Point) → AreCases ends → (came : Point → Bool) (state : ℕ → Bool) (a : ℕ) (p : Point) → Contains ends p → came p ≡ false → WriterCome ends came a → written ends came state a ≡ written (without_step p.step ends) came state a
    by_writer ends cases came state a p i h (ByWriter q j k s) =
        written_by ends cases came state a q j k s
        ∙ sym (written_by (without_step p.step ends) (rest_cases p.step ends cases) came state a q (in_rest ends cases p q i j (λ e. true≢false (sym k ∙ (ap came e ∙ h)))) k s)
    by_writer ends cases came state a p i h (NoWriter e) =
        written_by_none ends came state a e
        ∙ sym (written_by_none (without_step p.step ends) came state a (no_writer (without_step p.step ends) came a (λ q j k s. not_any ends came a e q (rest_within p.step ends q j).0 k s)))

changed_way : (p : Point) (state : ℕ → Bool) (a : ℕ) → sets p a ≡ true → changed_by p.event state a ≡ has p.event.adds a
changed_way p state a h = by (has p.event.adds a) (has p.event.dels a) (state a) h
  where
    by : (b c d : Bool) → (b || c) ≡ true → (b || (not c && d)) ≡ b
    by true c d h = refl
    by false true d h = refl
    by false false d h = absurd (true≢false (sym h))

unchanged : (p : Point) (state : ℕ → Bool) (a : ℕ) → sets p a ≡ false → changed_by p.event state a ≡ state a
unchanged p state a h = by (has p.event.adds a) (has p.event.dels a) (state a) h
  where
    by : (b c d : Bool) → (b || c) ≡ false → (b || (not c && d)) ≡ d
    by true c d h = absurd (true≢false h)
    by false true d h = absurd (true≢false h)
    by false false d h = refl

-- an end that has come
pub written_came : (ends : List Point) → AreCases ends → (came : Point → Bool) (state : ℕ → Bool) (a : ℕ) (p : Point) → Contains ends p → came p ≡ true → written ends came state a ≡ written (without_step p.step ends) came (changed_by p.event state) a
written_came ends cases came state a p i h = by_writer ends cases came state a p i h (writer_come (without_step p.step ends) came a)
  where
    by_none : (ends : List Point) → AreCases ends → (came : Point → Bool) (state : ℕ → Bool) (a : ℕ) (p : Point) → Contains ends p → came p ≡ true → list_any (λ q. came q && sets q a) (without_step p.step ends) ≡ false → (sets p a ≡ true) ⊎ (sets p a ≡ false) →
        written ends came state a ≡ changed_by p.event state a
    by_none ends cases came state a p i h e (inl s) = written_by ends cases came state a p i h s ∙ sym (changed_way p state a s)
    by_none ends cases came state a p i h e (inr s) =
        written_by_none ends came state a (no_writer ends came a (λ q j k r.
        not_any (without_step p.step ends) came a e q (in_rest ends cases p q i j (λ f. true≢false (sym r ∙ (ap (λ (x : Point). sets x a) f ∙ s)))) k r))
        ∙ sym (unchanged p state a s)

    by_writer : (ends : List Point) → AreCases ends → (came : Point → Bool) (state : ℕ → Bool) (a : ℕ) (p : Point) → Contains ends p → came p ≡ true → WriterCome (without_step p.step ends) came a →
        written ends came state a ≡ written (without_step p.step ends) came (changed_by p.event state) a
    by_writer ends cases came state a p i h (ByWriter q j k s) =
        written_by ends cases came state a q (rest_within p.step ends q j).0 k s
        ∙ sym (written_by (without_step p.step ends) (rest_cases p.step ends cases) came (changed_by p.event state) a q j k s)
    by_writer ends cases came state a p i h (NoWriter e) =
        by_none ends cases came state a p i h e (cases_Bool (sets p a))
        ∙ sym (written_by_none (without_step p.step ends) came (changed_by p.event state) a e)

-- ---- what would change

turned_back : (p q : Point) (state : ℕ → Bool) (a : ℕ) → (sets p a ≡ true → sets q a ≡ true → has p.event.adds a ≡ has q.event.adds a) → turns_at q (changed_by p.event state) a ≡ true → turns_at q state a ≡ true
turned_back p q state a alike h = by (has q.event.adds a) (has q.event.dels a) (has p.event.adds a) (has p.event.dels a) (state a) alike h
  where
    by : (y e x d s : Bool) → ((x || d) ≡ true → (y || e) ≡ true → x ≡ y) → cond y (not (x || (not d && s))) (e && (x || (not d && s))) ≡ true → cond y (not s) (e && s) ≡ true
    by true e true d s alike h = absurd (true≢false (sym h))
    by true e false true s alike h = absurd (true≢false (sym (alike refl refl)))
    by true e false false s alike h = h
    by false false x d s alike h = h
    by false true true d s alike h = absurd (true≢false (alike refl refl))
    by false true false true s alike h = absurd (true≢false (sym h))
    by false true false false s alike h = h

-- what an end would change after another one it would have changed before
pub turned_before : (ends : List Point) → AreCases ends → (p q : Point) → Contains ends p → Contains ends q → (state : ℕ → Bool) (c : Cond) → turns q (changed_by p.event state) c ≡ true → turns q state c ≡ true
turned_before ends cases p q i j state c h =
    let r = passing_member (turns_at q (changed_by p.event state)) (atoms_read c) h in
    any_passes (turns_at q state) (atoms_read c) r.0 r.1 (turned_back p q state r.0 (cases.alike r.0 p q i j) r.2)
