-- Files that are loaded one after another: what becomes of those that are left becomes of all.
use Rattle.std.proofs.Common.{◌≡◌, ℕ, ◌+◌, ◌<◌, ◌≤◌, Bool, true, false, List, ◌∷◌, length, map, drop, get_or, replicate, Option, Some, None, refl, sym, ◌∙◌, arith, inl, inr}
use Rattle.std.specs.Prelude.{IfSome, slice_index_or}
use Rattle.std.proofs.lemmas.List.{drop_more, drop-map, length-replicate}
use Rattle.stp_base.specs.declared.limits.TheConstants.{MAX_FILE_BYTES}
use Rattle.stp_io.specs.Store.{HasRisen, IsTooLong}
use Rattle.stp_io.specs.declared.loading.LoadFault.{LoadFault}
use Rattle.stp_io.specs.declared.loading.LoadFault.TheVariants as loads
use Rattle.stp_report.specs.declared.answer.Answer.{Answer}
use Rattle.stp_report.specs.declared.answer.FileName.{FileName}
use Rattle.stp_cli.specs.declared.texts.Texts.{Texts}
use Rattle.stp_cli.specs.Calls.{Files, StoreCall}
use Rattle.stp_cli.specs.Words.{Named, named_of}
use Rattle.stp_cli.specs.Texts.{with_text}
use Rattle.stp_cli.specs.Loading.{Holds, IsStopped, AreLoaded, IsUnloaded}

-- a call that began so, by its last count
abbrev pub call_of : Option Files → (List ℕ → Bool) → ℕ → ℕ → StoreCall
call_of told steady faults after = record { told = told; steady = steady; faults = faults; faults_after = after }

-- the file at a place of two lists, and those behind it
pub record IsNext (roles : List FileName) (names : List (List ℕ)) (i : ℕ) (role : FileName) (name : List ℕ) : Type 0 where
  pub roles_next : drop i roles ≡ role ∷ drop (i + 1) roles
  pub names_next : drop i names ≡ name ∷ drop (i + 1) names

pub next_of : {X : Type 0} (f : X → List ℕ) (roles : List FileName) (xs : List X) (i : ℕ) (role : FileName) (x : X) (name : List ℕ)
    → i < length roles → i < length xs → x ≡ get_or xs i x → name ≡ f x → IsNext roles (map f xs) i (slice_index_or roles i role) name
next_of f roles xs i role x name in_roles in_names at is = record {
  roles_next = drop_more roles i role in_roles;
  names_next = rw (drop-map f i xs, drop-map f (i + 1) xs, drop_more xs i x in_names, ← at, is) refl;
}

module _ (told : Option Files) (steady : List ℕ → Bool) (faults : ℕ) (roles : List FileName) (names : List (List ℕ)) (i : ℕ) (role : FileName) (name : List ℕ) (next : IsNext roles names i role name) (first before : Texts) where
  abbrev call : ℕ → StoreCall
  call = call_of told steady faults

  pub loads_next : (bytes : List ℕ) → Holds (call faults) name bytes → length bytes ≤ MAX_FILE_BYTES
      → ((after : ℕ) (texts : Texts) → AreLoaded (call after) (named_of (drop i roles) (drop i names)) before texts → AreLoaded (call after) (named_of roles names) first texts)
      → (after : ℕ) (texts : Texts) → AreLoaded (call after) (named_of (drop (i + 1) roles) (drop (i + 1) names)) (with_text role bytes before) texts → AreLoaded (call after) (named_of roles names) first texts
  loads_next bytes holds short on = λ after texts rest. on after texts (rw (next.roles_next, next.names_next) (bytes, record { holds = holds; short = short }, rest))

  pub stops_next : (bytes : List ℕ) → Holds (call faults) name bytes → length bytes ≤ MAX_FILE_BYTES
      → ((after : ℕ) (answer : Answer) → IsStopped (call after) (named_of (drop i roles) (drop i names)) answer → IsStopped (call after) (named_of roles names) answer)
      → (after : ℕ) (answer : Answer) → IsStopped (call after) (named_of (drop (i + 1) roles) (drop (i + 1) names)) answer → IsStopped (call after) (named_of roles names) answer
  stops_next bytes holds short on = λ after answer rest. on after answer (rw (next.roles_next, next.names_next) (inr (inr (bytes, record { holds = holds; short = short }, rest))))

-- ---- a file that is not loaded

longer_than : (n : ℕ) → (bytes : List ℕ) × (n < length bytes)
longer_than n = let nought : ℕ = 0 in (replicate (n + 1) nought, rw (length-replicate (n + 1) nought) (omega arith))

-- where nothing is told, some bytes are too many
long_bytes : (told : Option Files) (name : List ℕ) → IfSome told (λ file. IsTooLong (file name)) → (bytes : List ℕ) × (IfSome told (λ file. file name ≡ Some bytes)) × (MAX_FILE_BYTES < length bytes)
long_bytes None name h = let many = longer_than MAX_FILE_BYTES in (many.0, tt, many.1)
long_bytes (Some file) name h = h

pub stops_here : (reads : StoreCall) (role : FileName) (name : List ℕ) (rest : List Named) (fault : LoadFault) (answer : Answer)
    → (fault ≡ loads.ReadFault → HasRisen reads.faults reads.faults_after × (reads.steady name ≡ false)) → (fault ≡ loads.TooLong → IfSome reads.told (λ file. IsTooLong (file name)))
    → IsUnloaded role fault answer → IsStopped reads (record { role = role; name = name } ∷ rest) answer
stops_here reads role name rest loads.ReadFault answer read long e = let r = read refl in inl (record { counted = r.0; unsteady = r.1; answered = e })
stops_here reads role name rest loads.TooLong answer read long e =
    let many = long_bytes reads.told name (long refl) in
    inr (inl (record { bytes = many.0; holds = many.1; long = many.2; answered = e }))
stops_here reads role name rest loads.Memory answer read long e = absurd e

-- ---- counts and steady names

-- a count that rose later rose
pub risen_from : (first before after : ℕ) → first ≤ before → HasRisen before after → HasRisen first after
risen_from first before after le (inl lt) = inl (omega arith)
risen_from first before after le (inr last) = inr last

-- a name that is not steady later was not steady before
pub unsteady_before : (first later : List ℕ → Bool) (name : List ℕ) → ((n : List ℕ) → first n ≡ true → later n ≡ true) → later name ≡ false → first name ≡ false
unsteady_before first later name keeps not_later = cases (first name) refl where
  cases : (b : Bool) → first name ≡ b → first name ≡ false
  cases true e = let both : true ≡ false = sym (keeps name e) ∙ not_later in cc
  cases false e = e
