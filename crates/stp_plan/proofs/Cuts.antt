-- How a line is cut into parts, one part at a time.
use Rattle.std.proofs.Common.{◌≡◌, ℕ, ◌+◌, ◌<◌, Bool, true, false, cond, not, ◌&&◌, ◌||◌, List, [], ◌∷◌, length, take, drop, Option, Some, None, get_or, arith, refl, ap, ◌∙◌, sym, is_some, suc, nat_eq, unwrap_or, option_map, ◌-◌}
use Rattle.std.specs.List.{prefix_len, list_all}
use Rattle.std.proofs.lemmas.Bool.{eqb-true, ne_eqb, false≢true}
use Rattle.std.proofs.lemmas.List.{take_rest, length-drop, get_or-drop, nil_from_length}
use Rattle.std.proofs.lemmas.List.Sums.{prefix_len_stops}
use Rattle.std.proofs.lemmas.List.Folds.{length-prefix_len}
use Rattle.stp_text.specs.Bytes.{is_white}
use Rattle.stp_plan.specs.Parts.{is_mark, is_run_byte, mark_of, byte_of, Part, Colon, Open, Close, OpenBracket, CloseBracket, Run, ended, with_mark, cut, parts, after, first_run}

abbrev is_break : ℕ → Bool
is_break b = is_white b || is_mark b

pub parts_nil : parts [] ≡ []
unfolding parts cut
parts_nil = refl

pub cut_cons : (b : ℕ) (bs : List ℕ) (white : Bool) (mark : Option Part) → is_white b ≡ white → mark_of b ≡ mark → cut (b ∷ bs) ≡ cond white ([], ended (cut bs)) (with_mark mark b (cut bs))
unfolding cut
cut_cons b bs white mark h k = ap (λ w. cond w ([], ended (cut bs)) (with_mark (mark_of b) b (cut bs))) h ∙ ap (λ m. cond white ([], ended (cut bs)) (with_mark m b (cut bs))) k

pub parts_white : (b : ℕ) (bs : List ℕ) → is_white b ≡ true → parts (b ∷ bs) ≡ parts bs
unfolding parts
parts_white b bs h = ap ended (cut_cons b bs true (mark_of b) h refl)

pub parts_mark : (b : ℕ) (bs : List ℕ) (mark : Part) → is_white b ≡ false → mark_of b ≡ Some mark → parts (b ∷ bs) ≡ mark ∷ parts bs
unfolding parts
parts_mark b bs mark h k = ap ended (cut_cons b bs false (Some mark) h k)

-- a run, and the parts of what follows it
cut_break : (b : ℕ) (bs : List ℕ) (white : Bool) (mark : Option Part) → is_white b ≡ white → mark_of b ≡ mark → (white || is_some mark) ≡ true → cut (b ∷ bs) ≡ ([], parts (b ∷ bs))
unfolding parts
cut_break b bs true mark h k e = cut_cons b bs true mark h k ∙ ap (λ x. ([], x)) (sym (ap ended (cut_cons b bs true mark h k)))
cut_break b bs false (Some mark) h k e = cut_cons b bs false (Some mark) h k ∙ ap (λ x. ([], x)) (sym (ap ended (cut_cons b bs false (Some mark) h k)))
cut_break b bs false None h k e = cc

cut_more : (b : ℕ) (bs : List ℕ) (n : ℕ) (white : Bool) (mark : Option Part) → is_white b ≡ white → mark_of b ≡ mark → (white || is_some mark) ≡ false → cut bs ≡ (take n bs, parts (drop n bs)) → cut (b ∷ bs) ≡ (take (1 + n) (b ∷ bs), parts (drop (1 + n) (b ∷ bs)))
cut_more b bs n true mark h k e i = cc
cut_more b bs n false (Some mark) h k e i = cc
cut_more b bs n false None h k e i = let s : 1 + n ≡ suc n = omega arith in rw s (cut_cons b bs false None h k ∙ ap (λ x. (b ∷ x.0, x.1)) i)

cut_step : (b : ℕ) (bs : List ℕ) (breaks : Bool) → is_break b ≡ breaks → cut bs ≡ (take (prefix_len is_run_byte bs) bs, parts (drop (prefix_len is_run_byte bs) bs)) → cut (b ∷ bs) ≡ (take (cond (not breaks) (1 + prefix_len is_run_byte bs) 0) (b ∷ bs), parts (drop (cond (not breaks) (1 + prefix_len is_run_byte bs) 0) (b ∷ bs)))
cut_step b bs true e i = cut_break b bs (is_white b) (mark_of b) refl refl e
cut_step b bs false e i = cut_more b bs (prefix_len is_run_byte bs) (is_white b) (mark_of b) refl refl e i

pub cut_run : (bs : List ℕ) → cut bs ≡ (take (prefix_len is_run_byte bs) bs, parts (drop (prefix_len is_run_byte bs) bs))
unfolding cut parts
cut_run [] = refl
cut_run (b ∷ bs) = cut_step b bs (is_break b) refl (cut_run bs)

-- ---- white bytes

trimmed_step : (b : ℕ) (bs : List ℕ) (n : ℕ) (white : Bool) → is_white b ≡ white → parts (drop n bs) ≡ parts bs → parts (drop (cond white (1 + n) 0) (b ∷ bs)) ≡ parts (b ∷ bs)
trimmed_step b bs n true h i = let s : 1 + n ≡ suc n = omega arith in rw s (i ∙ sym (parts_white b bs h))
trimmed_step b bs n false h i = refl

-- the parts from the first byte on that is not white
pub parts_trimmed : (line : List ℕ) → parts (drop (prefix_len is_white line) line) ≡ parts line
parts_trimmed [] = refl
parts_trimmed (b ∷ bs) = trimmed_step b bs (prefix_len is_white bs) (is_white b) refl (parts_trimmed bs)

abbrev pub is_nil : List Part → Bool
is_nil [] = true
is_nil (part ∷ parts) = false

nil_break : (b : ℕ) (bs : List ℕ) (mark : Option Part) → is_white b ≡ false → mark_of b ≡ mark → is_nil (parts (b ∷ bs)) ≡ false
unfolding parts
nil_break b bs (Some mark) h k = ap is_nil (parts_mark b bs mark h k)
nil_break b bs None h k = ap (λ x. is_nil (ended x)) (cut_cons b bs false None h k)

nil_step : (b : ℕ) (bs : List ℕ) (white : Bool) → is_white b ≡ white → is_nil (parts bs) ≡ list_all is_white bs → is_nil (parts (b ∷ bs)) ≡ (white && list_all is_white bs)
nil_step b bs true h i = ap is_nil (parts_white b bs h) ∙ i
nil_step b bs false h i = nil_break b bs (mark_of b) h refl

-- a line has no part where all its bytes are white
pub nil_parts : (line : List ℕ) → is_nil (parts line) ≡ list_all is_white line
unfolding parts cut
nil_parts [] = refl
nil_parts (b ∷ bs) = nil_step b bs (is_white b) refl (nil_parts bs)

-- ---- marks

byte_in : Option Part → ℕ
byte_in o = unwrap_or (option_map byte_of o) 0

mark_byte_by : (b : ℕ) (m : Part) (s t u v w : Bool) → nat_eq b 58 ≡ s → nat_eq b 40 ≡ t → nat_eq b 41 ≡ u → nat_eq b 91 ≡ v → nat_eq b 93 ≡ w → cond s (Some Colon) (cond t (Some Open) (cond u (Some Close) (cond v (Some OpenBracket) (cond w (Some CloseBracket) None)))) ≡ Some m → byte_of m ≡ b
unfolding byte_in
mark_byte_by b m true t u v w h1 h2 h3 h4 h5 e = ap byte_in (sym e) ∙ sym (eqb-true b 58 h1)
mark_byte_by b m false true u v w h1 h2 h3 h4 h5 e = ap byte_in (sym e) ∙ sym (eqb-true b 40 h2)
mark_byte_by b m false false true v w h1 h2 h3 h4 h5 e = ap byte_in (sym e) ∙ sym (eqb-true b 41 h3)
mark_byte_by b m false false false true w h1 h2 h3 h4 h5 e = ap byte_in (sym e) ∙ sym (eqb-true b 91 h4)
mark_byte_by b m false false false false true h1 h2 h3 h4 h5 e = ap byte_in (sym e) ∙ sym (eqb-true b 93 h5)
mark_byte_by b m false false false false false h1 h2 h3 h4 h5 e = cc

-- a mark is its byte
mark_byte : (b : ℕ) (m : Part) → mark_of b ≡ Some m → byte_of m ≡ b
mark_byte b m e = mark_byte_by b m (nat_eq b 58) (nat_eq b 40) (nat_eq b 41) (nat_eq b 91) (nat_eq b 93) refl refl refl refl refl e

not_same : (b byte : ℕ) → is_mark b ≡ false → is_mark byte ≡ true → nat_eq b byte ≡ false
not_same b byte h k = ne_eqb b byte (λ e. false≢true (sym h ∙ ap is_mark e ∙ k))

after_step : (byte b : ℕ) (bs : List ℕ) (mark : Option Part) → is_mark byte ≡ true → is_white b ≡ false → mark_of b ≡ mark → after byte (parts (b ∷ bs)) ≡ cond (nat_eq b byte) (Some (parts bs)) None
unfolding parts
after_step byte b bs (Some mark) g h k = ap (after byte) (parts_mark b bs mark h k) ∙ ap (λ n. cond (nat_eq n byte) (Some (parts bs)) None) (mark_byte b mark k)
after_step byte b bs None g h k =
    ap (λ x. after byte (ended x)) (cut_cons b bs false None h k)
    ∙ ap (λ t. cond t (Some (cut bs).1) None) (not_same 0 byte refl g)
    ∙ sym (ap (λ t. cond t (Some (parts bs)) None) (not_same b byte (ap is_some k) g))

-- a byte that is not white, where a mark is looked for
pub after_byte : (byte b : ℕ) (bs : List ℕ) → is_mark byte ≡ true → is_white b ≡ false → after byte (parts (b ∷ bs)) ≡ cond (nat_eq b byte) (Some (parts bs)) None
after_byte byte b bs g h = after_step byte b bs (mark_of b) g h refl

-- ---- runs

ended_run : (run : List ℕ) (ps : List Part) → 0 < length run → first_run (ended (run, ps)) ≡ Some (run, ps)
ended_run [] ps h = absurd (omega arith)
ended_run (b ∷ run) ps h = refl

-- a run that has a byte
pub run_some : (line : List ℕ) → 0 < prefix_len is_run_byte line → first_run (parts line) ≡ Some (take (prefix_len is_run_byte line) line, parts (drop (prefix_len is_run_byte line) line))
unfolding parts
run_some line h =
    let e = length-prefix_len is_run_byte line in
    ap (λ x. first_run (ended x)) (cut_run line) ∙ ended_run (take (prefix_len is_run_byte line) line) (parts (drop (prefix_len is_run_byte line) line)) (omega (arith, e))

no_run : (b : ℕ) (m : Part) (ps : List Part) → mark_of b ≡ Some m → first_run (m ∷ ps) ≡ None
no_run b Colon ps k = refl
no_run b Open ps k = refl
no_run b Close ps k = refl
no_run b OpenBracket ps k = refl
no_run b CloseBracket ps k = refl
no_run b (Run bytes) ps k = absurd (false≢true (ap is_mark (mark_byte b (Run bytes) k) ∙ ap is_some k))

run_none_step : (b : ℕ) (bs : List ℕ) (mark : Option Part) → is_white b ≡ false → mark_of b ≡ mark → cond (not (is_some mark)) (1 + prefix_len is_run_byte bs) 0 ≡ 0 → first_run (parts (b ∷ bs)) ≡ None
run_none_step b bs (Some mark) h k e = ap first_run (parts_mark b bs mark h k) ∙ no_run b mark (parts bs) k
run_none_step b bs None h k e = absurd (omega arith)

-- a run that has none
pub run_none : (line : List ℕ) → (0 < length line → is_white (get_or line 0 0) ≡ false) → prefix_len is_run_byte line ≡ 0 → first_run (parts line) ≡ None
unfolding parts cut
run_none [] h e = refl
run_none (b ∷ bs) h e = let w : is_white b ≡ false = h (omega arith) in run_none_step b bs (mark_of b) w refl (ap (λ t. cond (not (t || is_mark b)) (1 + prefix_len is_run_byte bs) 0) (sym w) ∙ e)

-- the byte from which a line is trimmed
pub black_trimmed : (line : List ℕ) (n : ℕ) → n ≡ prefix_len is_white line → 0 < length (take (length line - n) (drop n line)) → is_white (get_or (take (length line - n) (drop n line)) 0 0) ≡ false
black_trimmed line n e h =
    let l : length (take (length line - n) (drop n line)) ≡ length line - n = ap length (take_rest line n) ∙ length-drop n line in
    let m : n < length line = omega arith in
    let q : prefix_len is_white line < length line = omega arith in
    let s : get_or (take (length line - n) (drop n line)) 0 0 ≡ get_or line (prefix_len is_white line) 0 =
    ap (λ xs. get_or xs 0 0) (take_rest line n) ∙ get_or-drop n line 0 0 ∙ ap (λ k. get_or line k 0) (let z : n + 0 ≡ prefix_len is_white line = omega arith in z) in
    ap is_white s ∙ prefix_len_stops is_white line 0 q

-- ---- the same for a line that another is trimmed to

pub after_nil : (byte : ℕ) (line trimmed : List ℕ) → parts trimmed ≡ parts line → length trimmed ≡ 0 → after byte (parts line) ≡ None
after_nil byte line trimmed e h = ap (after byte) (sym e ∙ ap parts (nil_from_length trimmed h) ∙ parts_nil)

pub after_first : (byte b : ℕ) (line trimmed rest : List ℕ) → is_mark byte ≡ true → parts trimmed ≡ parts line → (0 < length trimmed → is_white (get_or trimmed 0 0) ≡ false) → (trimmed ≡ b ∷ rest) × (length rest + 1 ≡ length trimmed) → after byte (parts line) ≡ cond (nat_eq b byte) (Some (parts rest)) None
after_first byte b line trimmed rest g e black h =
    let w : is_white b ≡ false = sym (ap (λ xs. is_white (get_or xs 0 0)) h.0) ∙ black (omega arith) in
    ap (after byte) (sym e ∙ ap parts h.0) ∙ after_byte byte b rest g w
