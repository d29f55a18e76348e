-- A run has one first fault at most: neither of two comes before the other, so they have one key, and a key tells its fault.
use Rattle.std.proofs.Common.{◌≡◌, ℕ, zero, suc, false, List, [], ◌∷◌, refl, sym, ap, ◌∙◌}
use Rattle.std.proofs.lemmas.List.Elements.{All-contains}
use Rattle.stp_happen.specs.declared.fault.Fault.{Fault}
use Rattle.stp_happen.specs.declared.fault.Fault.TheVariants.{Overlap, Interference, Condition, OverAll, Goal}
use Rattle.stp_happen.specs.Faults.{key_of, is_before, faults_of}
use Rattle.stp_happen.specs.OneFault.{FirstFaultIsOne}
use Rattle.stp_happen.proofs.LeastFailures.{not_before_each_other}

-- the fault of a kind at a moment
fault_at : ℕ → ℕ → ℕ → ℕ → Fault
fault_at time zero first second = Overlap time (record { 0 = first }) (record { 0 = second })
fault_at time (suc zero) first second = Interference time (record { 0 = first }) (record { 0 = second })
fault_at time (suc (suc zero)) first second = Condition time (record { 0 = first })
fault_at time (suc (suc (suc kind))) first second = OverAll time (record { 0 = first })

-- the fault of a key
fault_with : List ℕ → Fault
unfolding fault_at
fault_with (zero ∷ time ∷ kind ∷ first ∷ second ∷ []) = fault_at time kind first second
fault_with others = Goal

told_by_key : (f : Fault) → fault_with (key_of f) ≡ f
unfolding fault_at fault_with
told_by_key (Overlap time first second) = refl
told_by_key (Interference time first second) = refl
told_by_key (Condition time step) = refl
told_by_key (OverAll time step) = refl
told_by_key Goal = refl

pub first_fault_is_one : FirstFaultIsOne
first_fault_is_one run one other h k =
    let other_not_before : is_before other one ≡ false = All-contains (λ g. is_before g one ≡ false) (faults_of run) other h.first k.there in
    let one_not_before : is_before one other ≡ false = All-contains (λ g. is_before g other ≡ false) (faults_of run) one k.first h.there in
    let keys : key_of one ≡ key_of other = not_before_each_other (key_of one) (key_of other) one_not_before other_not_before in
    sym (told_by_key one) ∙ ap fault_with keys ∙ told_by_key other
