-- Trees without pointers.
use Rattle.std.specs.Prelude.{ℕ, ◌+◌, List, [], ◌∷◌, map}
use Rattle.stp_text.specs.declared.sexpr.Sexpr.{Sexpr}
use Rattle.stp_text.specs.declared.sexpr.Sexpr.TheOpen.{Sexpr-F}
use Rattle.stp_text.specs.declared.sexpr.Sexpr.TheFolds.{fold-Sexpr}

-- a word or a list, with its place
mutual
  pub data Tree : Type 0 where
    Word : (at : ℕ) → (text : List ℕ) → Tree
    Node : (at : ℕ) → (items : Trees) → Tree

  pub data Trees : Type 0 where
    NoMore : Trees
    More : (first : Tree) → (rest : Trees) → Trees

abbrev pub trees_of : List Tree → Trees
trees_of [] = NoMore
trees_of (t ∷ ts) = More t (trees_of ts)

abbrev pub view_step : Sexpr-F Tree → Tree
view_step (Sexpr-F.Word at text) = Word at text.now
view_step (Sexpr-F.Items at items) = Node at (trees_of items.now)

-- what a tree in the arena stands for
abbrev pub view : Sexpr → Tree
view = fold-Sexpr Tree view_step

-- several trees
abbrev pub views : List Sexpr → Trees
views ts = trees_of (map view ts)

-- how many words and lists a tree has
abbrev mutual
  pub nodes : Tree → ℕ
  nodes (Word at text) = 1
  nodes (Node at items) = 1 + nodes_of_all items

  pub nodes_of_all : Trees → ℕ
  nodes_of_all NoMore = 0
  nodes_of_all (More t ts) = nodes t + nodes_of_all ts
