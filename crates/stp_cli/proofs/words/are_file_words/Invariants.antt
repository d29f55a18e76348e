use Rattle.std.proofs.Common.{◌≡◌, map, drop, string_bytes}
use Rattle.std.specs.List.{list_all}
use Rattle.stp_cli.specs.Words.{is_file_word}
use Rattle.stp_cli.proofs.words.are_file_words.Given as goal

abbrev pub invariant-loop-word : goal.invariant-loop-word
invariant-loop-word l = list_all is_file_word (map string_bytes l.words) ≡ list_all is_file_word (map string_bytes (drop l.word-index l.words))
