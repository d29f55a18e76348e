-- The entries that windows in an arena make.
use Rattle.std.specs.Prelude.{List, map}
use Rattle.stp_happen.specs.Plain.{PlainEntry}
use Rattle.stp_window.specs.declared.windows.Window.{Window}
use Rattle.stp_window.specs.Windows.{entry_at}
use Rattle.stp_window.specs.Views.{point_of}

-- the entries of these windows, each at its end
abbrev pub late_entries : List Window → List PlainEntry
late_entries windows = map (λ w. entry_at (λ p. p.high) (point_of w)) windows
