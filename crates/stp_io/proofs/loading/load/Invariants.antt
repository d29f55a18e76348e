use Rattle.std.proofs.Common.{◌≡◌, ◌≤◌, ◌-◌, ℕ, List, length, take, true, IfSome}
use Rattle.stp_io.proofs.loading.load.Given as goal

-- the text is a front of the file, and the store is as it was
abbrev pub invariant-loop-text : goal.invariant-loop-text
invariant-loop-text g l = record {
  limit : length l.text ≤ 1048576;
  buffer : length l.buffer ≡ 16384;
  front : IfSome (g.S.Store.files l.fn.store) (λ f. IfSome (f l.name) (λ bytes. l.text ≡ take (length l.text) bytes));
  files : g.S.Store.files l.store ≡ g.S.Store.files l.fn.store;
  steady : (n : List ℕ) → g.S.Store.steady l.fn.store n ≡ true → g.S.Store.steady l.store n ≡ true;
  counts : g.S.Store.faults l.fn.store ≤ g.S.Store.faults l.store;
}

abbrev pub decreases-loop-text : goal.decreases-loop-text
decreases-loop-text g l = 1048577 - length l.text
