-- Sets of renamed atoms, and the states that renamed entries leave.
use Rattle.std.proofs.Common.{◌≡◌, ℕ, ◌==◌, Bool, not, ◌&&◌, ◌||◌, nat_lt, nat_le, List, map, filter, refl, ap, ap₂, ◌∙◌, eqb-true, eq-eqb}
use Rattle.std.specs.List.{list_any}
use mathlib.Core.Path.{fun_ext}
use Rattle.stp_cond.specs.Atoms.{PlainEvent, has, have_common, disturbs, interfere}
use Rattle.stp_happen.specs.Plain.{PlainEntry, PlainRun, writes, is_latest_write, state_after, before, after, at_end}
use Rattle.stp_happen.proofs.Members.{same_tests, any_alike, all_alike, kept_alike}
use Rattle.stp_numbering.specs.Numbering.{IsOneToOne, AgreesUnder, renamed_event, renamed_entry, renamed_run}

module _ (f : ℕ → ℕ) (one : IsOneToOne f) where
  -- ---- sets of atoms

  same_number : (a b : ℕ) → (f a == f b) ≡ (a == b)
  same_number a b = same_tests (f a == f b) (a == b) (λ e. eq-eqb a b (one a b (eqb-true (f a) (f b) e))) (λ e. eq-eqb (f a) (f b) (ap f (eqb-true a b e)))

  pub renamed_has : (atoms : List ℕ) (a : ℕ) → has (map f atoms) (f a) ≡ has atoms a
  renamed_has atoms a = any_alike f (λ b. b == f a) (λ b. b == a) atoms (λ b i. same_number b a)

  renamed_common : (xs ys : List ℕ) → have_common (map f xs) (map f ys) ≡ have_common xs ys
  renamed_common xs ys = any_alike f (has (map f ys)) (has ys) xs (λ x i. renamed_has ys x)

  renamed_disturbs : (e o : PlainEvent) → disturbs (renamed_event f e) (renamed_event f o) ≡ disturbs e o
  renamed_disturbs e o = rw (renamed_common e.reads o.adds, renamed_common e.reads o.dels, renamed_common e.adds o.dels) refl

  pub renamed_interfere : (e o : PlainEvent) → interfere (renamed_event f e) (renamed_event f o) ≡ interfere e o
  renamed_interfere e o = ap₂ (λ b c. b || c) (renamed_disturbs e o) (renamed_disturbs o e)

  -- ---- states

  renamed_writes : (e : PlainEntry) (a : ℕ) → writes (renamed_entry f e) (f a) ≡ writes e a
  renamed_writes e a = ap₂ (λ b c. b || c) (renamed_has e.event.adds a) (renamed_has e.event.dels a)

  renamed_latest : (es : List PlainEntry) (a t : ℕ) → is_latest_write (map (renamed_entry f) es) (f a) t ≡ is_latest_write es a t
  renamed_latest es a t =
      all_alike (renamed_entry f) (λ o. not (writes o (f a)) || nat_le o.time t) (λ o. not (writes o a) || nat_le o.time t) es
      (λ o i. ap (λ b. not b || nat_le o.time t) (renamed_writes o a))

  module _ (old new : ℕ → Bool) (agrees : AgreesUnder f old new) where
    pub renamed_state : (es : List PlainEntry) → AgreesUnder f (state_after old es) (state_after new (map (renamed_entry f) es))
    renamed_state es a =
        let written : list_any (λ e. writes e (f a)) (map (renamed_entry f) es) ≡ list_any (λ e. writes e a) es =
        any_alike (renamed_entry f) (λ e. writes e (f a)) (λ e. writes e a) es (λ e i. renamed_writes e a) in
        let added : list_any (λ e. has e.event.adds (f a) && is_latest_write (map (renamed_entry f) es) (f a) e.time) (map (renamed_entry f) es) ≡ list_any (λ e. has e.event.adds a && is_latest_write es a e.time) es =
        any_alike (renamed_entry f) (λ e. has e.event.adds (f a) && is_latest_write (map (renamed_entry f) es) (f a) e.time) (λ e. has e.event.adds a && is_latest_write es a e.time) es
        (λ e i. ap₂ (λ b c. b && c) (renamed_has e.event.adds a) (renamed_latest es a e.time)) in
        rw (written, added, agrees a) refl

  module _ (initial : ℕ → Bool) (run : PlainRun) (agrees : AgreesUnder f run.initial initial) where
    pub renamed_before : (t : ℕ) → (λ (a : ℕ). before (renamed_run f initial run) t (f a)) ≡ before run t
    renamed_before t = fun_ext (λ a.
        ap (λ es. state_after initial es (f a)) (kept_alike (renamed_entry f) (λ e. nat_lt e.time t) (λ e. nat_lt e.time t) run.entries (λ e i. refl))
        ∙ renamed_state run.initial initial agrees (filter (λ e. nat_lt e.time t) run.entries) a)

    pub renamed_after : (t : ℕ) → (λ (a : ℕ). after (renamed_run f initial run) t (f a)) ≡ after run t
    renamed_after t = fun_ext (λ a.
        ap (λ es. state_after initial es (f a)) (kept_alike (renamed_entry f) (λ e. nat_le e.time t) (λ e. nat_le e.time t) run.entries (λ e i. refl))
        ∙ renamed_state run.initial initial agrees (filter (λ e. nat_le e.time t) run.entries) a)

    pub renamed_end : (λ (a : ℕ). at_end (renamed_run f initial run) (f a)) ≡ at_end run
    renamed_end = fun_ext (λ a. renamed_state run.initial initial agrees run.entries a)
