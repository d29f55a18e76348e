-- Runs over another numbering of their atoms.
use Rattle.std.proofs.Common.{ℕ, Bool, sym, ap, ◌∙◌}
use Rattle.stp_happen.specs.Plain.{PlainRun, Executes, AreCalm, IsFed, IsKept, AreApart}
use Rattle.stp_happen.proofs.Members.{all_of, each_of, all_pairs, each_pair, all_mapped, of_mapped, all_mapped_pairs, of_mapped_pairs}
use Rattle.stp_numbering.specs.Numbering.{IsOneToOne, AgreesUnder, renamed_entry, renamed_span, renamed_run, NumberingIsFree}
use Rattle.stp_numbering.proofs.RenamedStates.{renamed_interfere, renamed_before, renamed_after, renamed_end}

module _ (f : ℕ → ℕ) (initial : ℕ → Bool) (run : PlainRun) (one : IsOneToOne f) (agrees : AgreesUnder f run.initial initial) where
  abbrev new : PlainRun
  new = renamed_run f initial run

  renames : Executes run → Executes (renamed_run f initial run)
  renames x = record {
    calm = all_mapped_pairs (renamed_entry f) (renamed_entry f) AreCalm run.entries run.entries
        (λ e o i j l t. renamed_interfere f one e.event o.event ∙ each_pair AreCalm run.entries run.entries x.calm e o i j l t);
    fed = all_mapped (renamed_entry f) (IsFed (renamed_run f initial run)) run.entries
        (λ e i. ap e.event.cond (renamed_before f one initial run agrees e.time) ∙ each_of (IsFed run) run.entries x.fed e i);
    kept = all_mapped_pairs (renamed_entry f) (renamed_span f) (IsKept (renamed_run f initial run)) run.entries run.spans
        (λ e s i j from to. ap s.over (renamed_after f one initial run agrees e.time) ∙ each_pair (IsKept run) run.entries run.spans x.kept e s i j from to);
    apart = all_mapped_pairs (renamed_span f) (renamed_span f) AreApart run.spans run.spans (each_pair AreApart run.spans run.spans x.apart);
    reached = ap run.goal (renamed_end f one initial run agrees) ∙ x.reached;
  }

  renames_back : Executes (renamed_run f initial run) → Executes run
  renames_back x = record {
    calm = all_pairs AreCalm run.entries run.entries
        (λ e o i j l t. sym (renamed_interfere f one e.event o.event) ∙ of_mapped_pairs (renamed_entry f) (renamed_entry f) AreCalm run.entries run.entries x.calm e o i j l t);
    fed = all_of (IsFed run) run.entries
        (λ e i. ap e.event.cond (sym (renamed_before f one initial run agrees e.time)) ∙ of_mapped (renamed_entry f) (IsFed (renamed_run f initial run)) run.entries x.fed e i);
    kept = all_pairs (IsKept run) run.entries run.spans
        (λ e s i j from to. ap s.over (sym (renamed_after f one initial run agrees e.time)) ∙ of_mapped_pairs (renamed_entry f) (renamed_span f) (IsKept (renamed_run f initial run)) run.entries run.spans x.kept e s i j from to);
    apart = all_pairs AreApart run.spans run.spans (of_mapped_pairs (renamed_span f) (renamed_span f) AreApart run.spans run.spans x.apart);
    reached = ap run.goal (sym (renamed_end f one initial run agrees)) ∙ x.reached;
  }

pub numbering_is_free : NumberingIsFree
numbering_is_free f initial run one agrees = (renames f initial run one agrees, renames_back f initial run one agrees)
