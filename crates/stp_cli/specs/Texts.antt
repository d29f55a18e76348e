-- The texts of a command's files.
use Rattle.std.specs.Prelude.{ℕ, ◌≤◌, List, [], length}
use Rattle.stp_base.specs.declared.limits.TheConstants.{MAX_FILE_BYTES}
use Rattle.stp_report.specs.declared.answer.FileName.{FileName}
use Rattle.stp_report.specs.declared.answer.FileName.TheVariants.{Domain, Problem, Plan, Durations, Task}
use Rattle.stp_cli.specs.declared.texts.Texts.{Texts}

abbrev pub no_texts : Texts
no_texts = record { domain = []; problem = []; plan = [] }

-- with the text of one file more; durations are listed in a word and not in a file
abbrev pub with_text : FileName → List ℕ → Texts → Texts
with_text Domain text texts = record texts { domain = text }
with_text Problem text texts = record texts { problem = text }
with_text Plan text texts = record texts { plan = text }
with_text Durations text texts = texts
with_text Task text texts = texts

-- texts that a file can have
pub record AreShort (texts : Texts) : Type 0 where
  pub domain : length texts.domain ≤ MAX_FILE_BYTES
  pub problem : length texts.problem ≤ MAX_FILE_BYTES
  pub plan : length texts.plan ≤ MAX_FILE_BYTES
