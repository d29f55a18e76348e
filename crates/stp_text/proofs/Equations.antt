-- What a word and a list in the arena stand for.
use Rattle.std.proofs.Common.{◌≡◌, ℕ, List, map, sym, ap, ◌∙◌, Bor}
use Rattle.stp_text.specs.declared.sexpr.Sexpr.{Sexpr}
use Rattle.stp_text.specs.declared.sexpr.Sexpr.TheOpen.{Sexpr-F}
use Rattle.stp_text.specs.declared.sexpr.Sexpr.TheVariants.{Word, Items, rolls-Word, rolls-Items}
use Rattle.stp_text.specs.declared.sexpr.Sexpr.TheFolds.{fold-roll-Sexpr}
use Rattle.stp_text.specs.Tree.{Tree, Word as TreeWord, Node, trees_of, view, view_step}

pub view_word : (at : ℕ) (text : Bor (List ℕ)) → view (Word at text) ≡ TreeWord at text.now
view_word at text = ap view (sym (rolls-Word at text)) ∙ fold-roll-Sexpr Tree view_step (Sexpr-F.Word at text)

pub view_items : (at : ℕ) (items : Bor (List Sexpr)) → view (Items at items) ≡ Node at (trees_of (map view items.now))
view_items at items = ap view (sym (rolls-Items at items)) ∙ fold-roll-Sexpr Tree view_step (Sexpr-F.Items at items)
