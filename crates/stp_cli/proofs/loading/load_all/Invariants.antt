use Rattle.std.proofs.Common.{◌≡◌, ◌≤◌, ℕ, List, true, map, drop, string_bytes}
use Rattle.stp_report.specs.declared.answer.Answer.{Answer}
use Rattle.stp_cli.specs.declared.texts.Texts.{Texts}
use Rattle.stp_cli.specs.Words.{named_of}
use Rattle.stp_cli.specs.Texts.{no_texts, AreShort}
use Rattle.stp_cli.specs.Loading.{IsStopped, AreLoaded}
use Rattle.stp_cli.proofs.Loads.{call_of}
use Rattle.stp_cli.proofs.loading.load_all.Given as goal

-- the last count is not known inside, so what the files that are left come to is said for each
abbrev pub invariant-loop-index : goal.invariant-loop-index
invariant-loop-index g l = record {
  files : g.S.Store.files l.store ≡ g.S.Store.files l.fn.store;
  steady : (n : List ℕ) → g.S.Store.steady l.fn.store n ≡ true → g.S.Store.steady l.store n ≡ true;
  counts : g.S.Store.faults l.fn.store ≤ g.S.Store.faults l.store;
  short : AreShort l.texts;
  loads : (after : ℕ) (texts : Texts)
      → AreLoaded (call_of (g.S.Store.files l.fn.store) (g.S.Store.steady l.fn.store) (g.S.Store.faults l.fn.store) after) (named_of (drop l.index l.roles) (drop l.index (map string_bytes l.names))) l.texts texts
      → AreLoaded (call_of (g.S.Store.files l.fn.store) (g.S.Store.steady l.fn.store) (g.S.Store.faults l.fn.store) after) (named_of l.roles (map string_bytes l.names)) no_texts texts;
  stops : (after : ℕ) (answer : Answer)
      → IsStopped (call_of (g.S.Store.files l.fn.store) (g.S.Store.steady l.fn.store) (g.S.Store.faults l.fn.store) after) (named_of (drop l.index l.roles) (drop l.index (map string_bytes l.names))) answer
      → IsStopped (call_of (g.S.Store.files l.fn.store) (g.S.Store.steady l.fn.store) (g.S.Store.faults l.fn.store) after) (named_of l.roles (map string_bytes l.names)) answer;
}
