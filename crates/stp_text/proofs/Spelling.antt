-- What is read is what is spelled, and what is spelled is read.
use Rattle.std.proofs.Common.{◌≡◌, ◌≢◌, ℕ, ◌+◌, ◌≤◌, max, Bool, true, false, eqb, nat_lt, eqb-true, List, [], ◌∷◌, ◌++◌, length, Result, Ok, Err, refl, sym, ap, ◌∙◌, arith, append_assoc, append-nil, map, length-append}
use Rattle.std.proofs.lemmas.List.{length-map}
use Rattle.stp_text.specs.declared.bytes.ByteKind.{ByteKind}
use Rattle.stp_text.specs.declared.bytes.ByteKind.TheVariants.{White, Semicolon, Open, Close, Word as WordByte, Other}
use Rattle.stp_text.specs.declared.fault.TextFault.{TextFault}
use Rattle.stp_text.specs.declared.fault.TextFault.TheVariants.{BadByte, StrayClose, TooDeep, WordTooLong}
use Rattle.stp_text.specs.Tree.{Tree, Trees, Word, Node, NoMore, More, trees_of, nodes, nodes_of_all}
use Rattle.stp_text.specs.Bytes.{kind, folded}
use Rattle.stp_text.specs.Signs.{Sign, Opens, Closes, Spells, Strange, Inside, Nothing, AWord, AComment, begins, begins_here, begins_after_word, within, signs, signs_of}
use Rattle.stp_text.specs.Offences.{wrong}
use Rattle.stp_text.specs.Reading.{Frame, read_on, tree_of, whole, only_list}
use Rattle.stp_text.specs.Items.{is_list, list_of}
use Rattle.stp_text.specs.Spelling.{Mark, Opening, Closing, Text, mark, spell, spell_all, nesting, nesting_of_all, longest, longest_of_all}
use Rattle.stp_text.specs.Laws.{Spelled}
use Rattle.stp_text.proofs.Continuing.{on_word, on_open, on_close, too_deep, stray, unclosed_end, whole_end, wrong_sign, tree_whole}
use Rattle.std.proofs.lemmas.Bool.{eqb-false}
use Rattle.std.proofs.lemmas.Bool.Decides.{nat_tests}

-- one item more
spell_push : (ts : List Tree) (t : Tree) → spell_all (trees_of (ts ++ t ∷ [])) ≡ spell_all (trees_of ts) ++ spell t
spell_push [] t = append-nil (spell t)
spell_push (x ∷ ts) t = ap (λ ms. spell x ++ ms) (spell_push ts t) ∙ sym (append_assoc (spell x) (spell_all (trees_of ts)) (spell t))

nesting_push : (ts : List Tree) (t : Tree) → nesting_of_all (trees_of (ts ++ t ∷ [])) ≡ max (nesting_of_all (trees_of ts)) (nesting t)
nesting_push [] t = omega arith
nesting_push (x ∷ ts) t = let h = nesting_push ts t in omega arith

longest_push : (ts : List Tree) (t : Tree) → longest_of_all (trees_of (ts ++ t ∷ [])) ≡ max (longest_of_all (trees_of ts)) (longest t)
longest_push [] t = omega arith
longest_push (x ∷ ts) t = let h = longest_push ts t in omega arith

-- what the open lists and the items in the innermost spell
abbrev before : List Frame → List Tree → List Mark
before [] items = spell_all (trees_of items)
before (f ∷ frames) items = before frames f.1 ++ Opening f.0 ∷ spell_all (trees_of items)

before_push : (frames : List Frame) (items : List Tree) (t : Tree) → before frames (items ++ t ∷ []) ≡ before frames items ++ spell t
before_push [] items t = spell_push items t
before_push (f ∷ frames) items t = ap (λ ms. before frames f.1 ++ Opening f.0 ∷ ms) (spell_push items t) ∙ sym (append_assoc (before frames f.1) (Opening f.0 ∷ spell_all (trees_of items)) (spell t))

before_close : (frames : List Frame) (items outer : List Tree) (at : ℕ) (ms : List Mark) → before ((at, outer) ∷ frames) items ++ Closing ∷ ms ≡ before frames (outer ++ Node at (trees_of items) ∷ []) ++ ms
before_close frames items outer at ms =
    let b = before frames outer in
    let s = spell_all (trees_of items) in
    append_assoc b (Opening at ∷ s) (Closing ∷ ms)
    ∙ ap (λ x. b ++ Opening at ∷ x) (sym (append_assoc s (Closing ∷ []) ms))
    ∙ sym (append_assoc b (Opening at ∷ (s ++ Closing ∷ [])) ms)
    ∙ sym (ap (λ x. x ++ ms) (before_push frames outer (Node at (trees_of items))))

-- items inside of so many lists keep to the limits
record Fits_in (depth : ℕ) (items : List Tree) : Type 0 where
  deep : nesting_of_all (trees_of items) + depth ≤ 100
  long : longest_of_all (trees_of items) ≤ 100

abbrev Fits : List Frame → List Tree → Type 0
Fits [] items = Fits_in 0 items
Fits (f ∷ frames) items = Fits_in (length (f ∷ frames)) items × Fits frames f.1

fits_here : (frames : List Frame) (items : List Tree) → Fits frames items → Fits_in (length frames) items
fits_here [] items h = h
fits_here (f ∷ frames) items h = h.0

fits_more : (depth : ℕ) (items : List Tree) (t : Tree) → Fits_in depth items → nesting t + depth ≤ 100 → longest t ≤ 100 → Fits_in depth (items ++ t ∷ [])
fits_more depth items t h n l = record {
  deep = (let e = nesting_push items t in let d = h.deep in omega arith);
  long = (let e = longest_push items t in let d = h.long in omega arith);
}

fits_push : (frames : List Frame) (items : List Tree) (t : Tree) → Fits frames items → nesting t + length frames ≤ 100 → longest t ≤ 100 → Fits frames (items ++ t ∷ [])
fits_push [] items t h n l = fits_more 0 items t h n l
fits_push (f ∷ frames) items t h n l = (fits_more (length (f ∷ frames)) items t h.0 n l, h.1)

-- what was read, from here on
record Read (frames : List Frame) (items : List Tree) (ss : List Sign) (ts : List Tree) : Type 0 where
  same : before frames items ++ map mark ss ≡ spell_all (trees_of ts)
  fits : Fits_in 0 ts

not_ok : {A : Type 0} (fault : TextFault) (ts : List Tree) → Err fault ≡ Ok ts → A
not_ok fault ts e = cc

read_end : (frames : List Frame) (items ts : List Tree) → Fits frames items → read_on frames items [] ≡ Ok ts → Read frames items [] ts
read_end [] items ts h e = let same : items ≡ ts = (let o : Ok items ≡ Ok ts = sym (whole_end items) ∙ e in cc) in rw (← same) (record { same = append-nil (spell_all (trees_of items)); fits = h })
read_end (f ∷ frames) items ts h e = not_ok _ ts (sym (unclosed_end frames items f.1 f.0) ∙ e)

read_word : (ss : List Sign) (frames : List Frame) (items ts : List Tree) (at : ℕ) (text : List ℕ) (t : Bool) → nat_lt 100 (length text) ≡ t → Fits frames items → read_on frames items (Spells at text ∷ ss) ≡ Ok ts
    → ((more : List Tree) → Fits frames more → read_on frames more ss ≡ Ok ts → Read frames more ss ts) → Read frames items (Spells at text ∷ ss) ts
read_word ss frames items ts at text true l h e go = not_ok (WordTooLong at) ts (sym (wrong_sign frames items (Spells at text) ss (WordTooLong at) (rw l refl)) ∙ e)
read_word ss frames items ts at text false l h e go =
    let word = Word at (folded text) in
    let deep : 0 + length frames ≤ 100 = (let d = (fits_here frames items h).deep in omega arith) in
    let short : length (folded text) ≤ 100 = rw length-map (grind (arith, nat_tests)) in
    let r = go (items ++ word ∷ []) (fits_push frames items word h deep short) (sym (on_word frames items at text ss (rw l refl)) ∙ e) in
    record { same = sym (append_assoc (before frames items) (Text at (folded text) ∷ []) (map mark ss)) ∙ ap (λ ms. ms ++ map mark ss) (sym (before_push frames items word)) ∙ r.same; fits = r.fits }

read_open : (ss : List Sign) (frames : List Frame) (items ts : List Tree) (at : ℕ) (t : Bool) → eqb (length frames) 100 ≡ t → Fits frames items → read_on frames items (Opens at ∷ ss) ≡ Ok ts
    → (Fits ((at, items) ∷ frames) [] → read_on ((at, items) ∷ frames) [] ss ≡ Ok ts → Read ((at, items) ∷ frames) [] ss ts) → Read frames items (Opens at ∷ ss) ts
read_open ss frames items ts at true l h e go = not_ok (TooDeep at) ts (sym (too_deep frames items at ss (eqb-true (length frames) 100 l)) ∙ e)
read_open ss frames items ts at false l h e go =
    let ne : length frames ≢ 100 = eqb-false (length frames) 100 l in
    let deep = (fits_here frames items h).deep in
    let r = go (record { deep = omega arith; long = omega arith }, h) (sym (on_open frames items at ss ne) ∙ e) in
    record { same = sym (append_assoc (before frames items) (Opening at ∷ []) (map mark ss)) ∙ r.same; fits = r.fits }

read_close : (ss : List Sign) (frames : List Frame) (items ts : List Tree) (end : ℕ) → Fits frames items → read_on frames items (Closes end ∷ ss) ≡ Ok ts
    → ((outer : List Frame) (more : List Tree) → Fits outer more → read_on outer more ss ≡ Ok ts → Read outer more ss ts) → Read frames items (Closes end ∷ ss) ts
read_close ss [] items ts end h e go = not_ok (StrayClose end) ts (sym (stray [] items end ss refl) ∙ e)
read_close ss (f ∷ frames) items ts end h e go =
    let list = Node f.0 (trees_of items) in
    let deep = h.0.deep in
    let r = go frames (f.1 ++ list ∷ []) (fits_push frames f.1 list h.1 (omega arith) h.0.long) (sym (on_close frames items f.1 f.0 end ss) ∙ e) in
    record { same = before_close frames items f.1 f.0 (map mark ss) ∙ r.same; fits = r.fits }

read_all : (ss : List Sign) (frames : List Frame) (items ts : List Tree) → Fits frames items → read_on frames items ss ≡ Ok ts → Read frames items ss ts
read_all [] frames items ts h e = read_end frames items ts h e
read_all (Spells at text ∷ ss) frames items ts h e = read_word ss frames items ts at text (nat_lt 100 (length text)) refl h e (λ more. read_all ss frames more ts)
read_all (Opens at ∷ ss) frames items ts h e = read_open ss frames items ts at (eqb (length frames) 100) refl h e (read_all ss ((at, items) ∷ frames) [] ts)
read_all (Closes end ∷ ss) frames items ts h e = read_close ss frames items ts end h e (λ outer more. read_all ss outer more ts)
read_all (Strange at ∷ ss) frames items ts h e = not_ok (BadByte at) ts (sym (wrong_sign frames items (Strange at) ss (BadByte at) refl) ∙ e)

-- the one item of a file that is read
one_item : (end : ℕ) (items : List Tree) (t : Tree) → only_list end items ≡ Ok t → (items ≡ t ∷ []) × (is_list t ≡ true)
one_item end [] t e = cc
one_item end (Word at text ∷ items) t e = cc
one_item end (Node at inner ∷ []) t e = let h : Node at inner ≡ t = cc in rw (← h) (refl, refl)
one_item end (Node at inner ∷ second ∷ items) t e = cc

whole_item : (end : ℕ) (r : Result (List Tree) TextFault) (t : Tree) → whole end r ≡ Ok t → (r ≡ Ok (t ∷ [])) × (is_list t ≡ true)
whole_item end (Ok items) t e = let h = one_item end items t e in (ap Ok h.0, h.1)
whole_item end (Err fault) t e = cc

pub spelled : (bytes : List ℕ) (t : Tree) → tree_of bytes ≡ Ok t → Spelled bytes t
unfolding tree_of
spelled bytes t e =
    let h = whole_item (length bytes) (read_on [] [] (signs_of bytes)) t e in
    let r = read_all (signs_of bytes) [] [] (t ∷ []) (record { deep = omega arith; long = omega arith }) h.0 in
    let deep = r.fits.deep in
    let long = r.fits.long in
    record { a_list = h.1; same = r.same ∙ append-nil (spell t); shallow = omega arith; short = omega arith }

-- a tree has no more words and lists than marks, and a text no more signs than bytes
mutual
  nodes_spelled : (t : Tree) → nodes t ≤ length (spell t)
  nodes_spelled (Word at text) = omega arith
  nodes_spelled (Node at items) = let h = nodes_spelled_all items in let l = length-append (spell_all items) (Closing ∷ []) in omega arith

  nodes_spelled_all : (ts : Trees) → nodes_of_all ts ≤ length (spell_all ts)
  nodes_spelled_all NoMore = omega arith
  nodes_spelled_all (More t ts) = let h = nodes_spelled t in let k = nodes_spelled_all ts in let l = length-append (spell t) (spell_all ts) in omega arith

begins_few : (k : ByteKind) (at : ℕ) (bytes : List ℕ) → (length (begins_here k at bytes) ≤ 1) × (length (begins_after_word k at bytes) ≤ 1)
begins_few White at bytes = (omega arith, omega arith)
begins_few Semicolon at bytes = (omega arith, omega arith)
begins_few Open at bytes = (omega arith, omega arith)
begins_few Close at bytes = (omega arith, omega arith)
begins_few WordByte at bytes = (omega arith, omega arith)
begins_few Other at bytes = (omega arith, omega arith)

begins_one : (inside : Inside) (at b : ℕ) (bytes : List ℕ) → length (begins inside at b bytes) ≤ 1
begins_one Nothing at b bytes = (begins_few (kind b) at (b ∷ bytes)).0
begins_one AWord at b bytes = (begins_few (kind b) at (b ∷ bytes)).1
begins_one AComment at b bytes = omega arith

signs_few : (inside : Inside) (at : ℕ) (bytes : List ℕ) → length (signs inside at bytes) ≤ length bytes
unfolding signs
signs_few inside at [] = omega arith
signs_few inside at (b ∷ bytes) =
    let one = begins_one inside at b bytes in
    let rest = signs_few (within inside b) (at + 1) bytes in
    let l = length-append (begins inside at b bytes) (signs (within inside b) (at + 1) bytes) in
    omega arith

pub nodes_within : (bytes : List ℕ) (t : Tree) → tree_of bytes ≡ Ok t → nodes t ≤ length bytes
nodes_within bytes t e =
    let s = nodes_spelled t in
    let m : length (map mark (signs_of bytes)) ≡ length (spell t) = ap length (spelled bytes t e).same in
    let l : length (map mark (signs_of bytes)) ≡ length (signs_of bytes) = length-map (signs_of bytes) mark in
    let f = signs_few Nothing 0 bytes in
    omega arith

-- marks that begin with a mark are those of signs that begin with a sign
uncons : (ss : List Sign) (m : Mark) (ms : List Mark) → map mark ss ≡ m ∷ ms → (s : Sign) × (rest : List Sign) × (ss ≡ s ∷ rest) × (mark s ≡ m) × (map mark rest ≡ ms)
uncons [] m ms e = cc
uncons (s ∷ ss) m ms e = (s, ss, refl, cc, cc)

is_text : (s : Sign) (at : ℕ) (text : List ℕ) → mark s ≡ Text at text → (raw : List ℕ) × (s ≡ Spells at raw) × (folded raw ≡ text)
is_text (Opens a) at text e = cc
is_text (Closes a) at text e = cc
is_text (Spells a raw) at text e = (raw, (let h : a ≡ at = cc in ap (λ n. Spells n raw) h), cc)
is_text (Strange a) at text e = cc

is_opening : (s : Sign) (at : ℕ) → mark s ≡ Opening at → s ≡ Opens at
is_opening (Opens a) at e = let h : a ≡ at = cc in ap Opens h
is_opening (Closes a) at e = cc
is_opening (Spells a raw) at e = cc
is_opening (Strange a) at e = cc

is_closing : (s : Sign) → mark s ≡ Closing → (end : ℕ) × (s ≡ Closes end)
is_closing (Opens a) e = cc
is_closing (Closes a) e = (a, refl)
is_closing (Spells a raw) e = cc
is_closing (Strange a) e = cc

-- these items are read from the signs, up to those with the marks that follow
record Builds (frames : List Frame) (items : List Tree) (ss : List Sign) (after : List Mark) (more : List Tree) : Type 0 where
  rest : List Sign
  same : map mark rest ≡ after
  read : read_on frames items ss ≡ read_on frames (items ++ more) rest

trees_of_list : (ts : Trees) → trees_of (list_of ts) ≡ ts
trees_of_list NoMore = refl
trees_of_list (More t ts) = ap (More t) (trees_of_list ts)

right_word : (at : ℕ) (text : List ℕ) → length text ≤ 100 → wrong (Spells at text) ≡ []
right_word at text h = grind (arith, nat_tests)

word_step : (at : ℕ) (text raw : List ℕ) (frames : List Frame) (items : List Tree) (ss rest : List Sign) (s : Sign) → length raw ≤ 100 → ss ≡ s ∷ rest → s ≡ Spells at raw → folded raw ≡ text → read_on frames items ss ≡ read_on frames (items ++ Word at text ∷ []) rest
word_step at text raw frames items ss rest s l e1 e2 e3 =
    ap (read_on frames items) (e1 ∙ ap (λ x. x ∷ rest) e2)
    ∙ on_word frames items at raw rest (right_word at raw l)
    ∙ ap (λ xs. read_on frames (items ++ Word at xs ∷ []) rest) e3

build_word : (at : ℕ) (text : List ℕ) (frames : List Frame) (items : List Tree) (ss : List Sign) (after : List Mark) → length text ≤ 100 → map mark ss ≡ Text at text ∷ after → Builds frames items ss after (Word at text ∷ [])
build_word at text frames items ss after l e =
    let u = uncons ss (Text at text) after e in
    let w = is_text u.0 at text u.3 in
    let short : length w.0 ≤ 100 = (let k : length (folded w.0) ≡ length text = ap length w.2 in let m : length (folded w.0) ≡ length w.0 = length-map w.0 _ in omega arith) in
    record { rest = u.1; same = u.4; read = word_step at text w.0 frames items ss u.1 u.0 short u.2 w.1 w.2 }

list_step : (at end : ℕ) (inner : Trees) (frames : List Frame) (items : List Tree) (ss inside left rest : List Sign) (s t : Sign) → length frames ≢ 100 → ss ≡ s ∷ inside → s ≡ Opens at
    → read_on ((at, items) ∷ frames) [] inside ≡ read_on ((at, items) ∷ frames) (list_of inner) left → left ≡ t ∷ rest → t ≡ Closes end
    → read_on frames items ss ≡ read_on frames (items ++ Node at inner ∷ []) rest
list_step at end inner frames items ss inside left rest s t ne e1 e2 r e3 e4 =
    ap (read_on frames items) (e1 ∙ ap (λ x. x ∷ inside) e2)
    ∙ on_open frames items at inside ne
    ∙ r
    ∙ ap (read_on ((at, items) ∷ frames) (list_of inner)) (e3 ∙ ap (λ x. x ∷ rest) e4)
    ∙ on_close frames (list_of inner) items at end rest
    ∙ ap (λ ts. read_on frames (items ++ Node at ts ∷ []) rest) (trees_of_list inner)

build_none : (frames : List Frame) (items : List Tree) (ss : List Sign) (after : List Mark) → map mark ss ≡ after → Builds frames items ss after []
build_none frames items ss after e = record { rest = ss; same = e; read = ap (λ xs. read_on frames xs ss) (sym (append-nil items)) }

build_more : (t : Tree) (ts : List Tree) (frames : List Frame) (items : List Tree) (ss : List Sign) (mid after : List Mark) (b : Builds frames items ss mid (t ∷ [])) → Builds frames (items ++ t ∷ []) b.rest after ts → Builds frames items ss after (t ∷ ts)
build_more t ts frames items ss mid after b c = record { rest = c.rest; same = c.same; read = b.read ∙ c.read ∙ ap (λ xs. read_on frames xs c.rest) (append_assoc items (t ∷ []) ts) }

build_list : (at : ℕ) (inner : Trees) (frames : List Frame) (items : List Tree) (ss : List Sign) (after : List Mark) → 1 + nesting_of_all inner + length frames ≤ 100 → map mark ss ≡ spell (Node at inner) ++ after
    → ((ss : List Sign) → map mark ss ≡ spell_all inner ++ (Closing ∷ after) → Builds ((at, items) ∷ frames) [] ss (Closing ∷ after) (list_of inner)) → Builds frames items ss after (Node at inner ∷ [])
build_list at inner frames items ss after d e go =
    let u = uncons ss (Opening at) ((spell_all inner ++ Closing ∷ []) ++ after) e in
    let o = is_opening u.0 at u.3 in
    let ne : length frames ≢ 100 = λ h. absurd (omega arith) in
    let b = go u.1 (u.4 ∙ append_assoc (spell_all inner) (Closing ∷ []) after) in
    let v = uncons b.rest Closing after b.same in
    let k = is_closing v.0 v.3 in
    record { rest = v.1; same = v.4; read = list_step at k.0 inner frames items ss u.1 b.rest v.1 u.0 v.0 ne u.2 o b.read v.2 k.1 }

mutual
  build : (t : Tree) (frames : List Frame) (items : List Tree) (ss : List Sign) (after : List Mark) → nesting t + length frames ≤ 100 → longest t ≤ 100 → map mark ss ≡ spell t ++ after → Builds frames items ss after (t ∷ [])
  build (Word at text) frames items ss after d l e = build_word at text frames items ss after l e
  build (Node at inner) frames items ss after d l e = build_list at inner frames items ss after d e (λ more h. build_all inner ((at, items) ∷ frames) [] more (Closing ∷ after) (omega arith) l h)

  build_all : (ts : Trees) (frames : List Frame) (items : List Tree) (ss : List Sign) (after : List Mark) → nesting_of_all ts + length frames ≤ 100 → longest_of_all ts ≤ 100 → map mark ss ≡ spell_all ts ++ after → Builds frames items ss after (list_of ts)
  build_all NoMore frames items ss after d l e = build_none frames items ss after e
  build_all (More t ts) frames items ss after d l e =
      let b = build t frames items ss (spell_all ts ++ after) (omega arith) (omega arith) (e ∙ append_assoc (spell t) (spell_all ts) after) in
      build_more t (list_of ts) frames items ss (spell_all ts ++ after) after b (build_all ts frames (items ++ t ∷ []) b.rest after (omega arith) (omega arith) b.same)

nothing_marked : (ss : List Sign) → map mark ss ≡ [] → ss ≡ []
nothing_marked [] e = refl
nothing_marked (s ∷ ss) e = cc

list_alone : (end : ℕ) (t : Tree) → is_list t ≡ true → only_list end (t ∷ []) ≡ Ok t
list_alone end (Word at text) e = cc
list_alone end (Node at items) e = refl

pub read_spelled : (bytes : List ℕ) (t : Tree) → Spelled bytes t → tree_of bytes ≡ Ok t
read_spelled bytes t h =
    let deep = h.shallow in
    let b = build t [] [] (signs_of bytes) [] (omega arith) h.short (h.same ∙ sym (append-nil (spell t))) in
    tree_whole bytes (t ∷ []) b.rest (Ok t) b.read (nothing_marked b.rest b.same) (list_alone (length bytes) t h.a_list)
