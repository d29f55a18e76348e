-- What a reader takes at the next byte.
use Rattle.std.proofs.Common.{◌≡◌, ℕ, ◌+◌, ◌<◌, ◌≤◌, lt-ltb, List, [], ◌∷◌, length, drop, slice_get, Some, None, refl, sym, ap, ◌∙◌, arith, length-drop, length-take-le}
use Rattle.std.proofs.lemmas.List.Sums.{prefix_len-le-length}
use Rattle.stp_text.specs.declared.bytes.ByteKind.TheVariants.{White, Semicolon, Open, Close, Word, Other}
use Rattle.stp_text.specs.declared.fault.TextFault.{TextFault}
use Rattle.stp_text.specs.declared.fault.TextFault.TheVariants.{BadByte, WordTooLong}
use Rattle.stp_text.specs.Bytes.{kind, run, is_word_byte}
use Rattle.stp_text.specs.Signs.{Sign, Opens, Closes, Spells, Strange, Nothing, AWord, AComment, signs}
use Rattle.stp_text.specs.Offences.{wrong}
use Rattle.stp_text.specs.Pieces.{signs_left, Takes, Refuses}
use Rattle.std.proofs.lemmas.Bool.Decides.{nat_tests}
use Rattle.stp_text.proofs.Lexing.{past_word, at_byte, at_word, at_end, begun, run_begun}

abbrev pub Place : Type 0
Place = ℕ × List ℕ

shorter : (b : ℕ) (r : Place) → slice_get r.1 0 ≡ Some b → length (drop 1 r.1) < length r.1
shorter b r g = let h = begun b r.1 g in rw length-drop (omega (arith, h))

pub past_white : (r : Place) (b : ℕ) → Some b ≡ slice_get r.1 0 → White ≡ kind b → signs_left (r.0 + 1, drop 1 r.1) ≡ signs_left r
past_white r b g e = sym (at_byte r.0 b r.1 White (sym g) (sym e))

pub past_semicolon : (r : Place) (b : ℕ) → Some b ≡ slice_get r.1 0 → Semicolon ≡ kind b → signs AComment (r.0 + 1) (drop 1 r.1) ≡ signs_left r
past_semicolon r b g e = sym (at_byte r.0 b r.1 Semicolon (sym g) (sym e))

pub takes_open : (r : Place) (b : ℕ) → Some b ≡ slice_get r.1 0 → Open ≡ kind b → Takes (Opens r.0) r (r.0 + 1, drop 1 r.1)
takes_open r b g e = record { same = at_byte r.0 b r.1 Open (sym g) (sym e); right = refl; ends = refl; shorter = shorter b r (sym g) }

pub takes_close : (r : Place) (b : ℕ) → Some b ≡ slice_get r.1 0 → Close ≡ kind b → Takes (Closes r.0) r (r.0 + 1, drop 1 r.1)
takes_close r b g e = record { same = at_byte r.0 b r.1 Close (sym g) (sym e); right = refl; ends = refl; shorter = shorter b r (sym g) }

right_word : (at : ℕ) (text : List ℕ) → length text ≤ 100 → wrong (Spells at text) ≡ []
right_word at text h = grind (arith, nat_tests)

wrong_word : (at : ℕ) (text : List ℕ) → 100 < length text → wrong (Spells at text) ≡ WordTooLong at ∷ []
wrong_word at text h = rw (lt-ltb 100 (length text) h) refl

-- a word was taken as it stands at the front
pub past_run : (r : Place) → signs Nothing (r.0 + length (run r.1)) (drop (length (run r.1)) r.1) ≡ signs AWord r.0 r.1
past_run r = let h = prefix_len-le-length is_word_byte r.1 in rw length-take-le (sym (past_word r.0 r.1))

pub takes_word : (r : Place) (b : ℕ) (text : List ℕ) → Some b ≡ slice_get r.1 0 → Word ≡ kind b → text ≡ run r.1 → length text ≤ 100 → Takes (Spells r.0 text) r (r.0 + length text, drop (length text) r.1)
takes_word r b text g e t h = record {
  same = rw t (at_word r.0 b r.1 (sym g) (sym e) ∙ ap (λ ss. Spells r.0 (run r.1) ∷ ss) (sym (past_run r)));
  right = right_word r.0 text h;
  ends = refl;
  shorter = (let some = run_begun b r.1 (sym g) (sym e) in let same : length text ≡ length (run r.1) = ap length t in let all = begun b r.1 (sym g) in rw length-drop (omega arith));
}

pub refuses_word : (r : Place) (b : ℕ) (text : List ℕ) → Some b ≡ slice_get r.1 0 → Word ≡ kind b → text ≡ run r.1 → 100 < length text → Refuses (WordTooLong r.0) r
refuses_word r b text g e t h = record {
  sign = Spells r.0 (run r.1);
  rest = signs AWord r.0 r.1;
  same = at_word r.0 b r.1 (sym g) (sym e);
  is_wrong = wrong_word r.0 (run r.1) (rw (← t) h);
}

pub refuses_byte : (r : Place) (b : ℕ) → Some b ≡ slice_get r.1 0 → Other ≡ kind b → Refuses (BadByte r.0) r
refuses_byte r b g e = record {
  sign = Strange r.0;
  rest = signs Nothing (r.0 + 1) (drop 1 r.1);
  same = at_byte r.0 b r.1 Other (sym g) (sym e);
  is_wrong = refl;
}

-- what is taken after blanks
pub takes_from : (s : Sign) (old mid new : Place) → (signs_left mid ≡ signs_left old) × (length mid.1 ≤ length old.1) → Takes s mid new → Takes s old new
takes_from s old mid new i t = record { same = sym i.0 ∙ t.same; right = t.right; ends = t.ends; shorter = (let h = t.shorter in let k = i.1 in omega arith) }

pub refuses_from : (f : TextFault) (old mid : Place) → (signs_left mid ≡ signs_left old) × (length mid.1 ≤ length old.1) → Refuses f mid → Refuses f old
refuses_from f old mid i t = record { sign = t.sign; rest = t.rest; same = sym i.0 ∙ t.same; is_wrong = t.is_wrong }

pub nothing_left : (old mid : Place) → (signs_left mid ≡ signs_left old) × (length mid.1 ≤ length old.1) → None ≡ slice_get mid.1 0 → signs_left old ≡ []
nothing_left old mid i g = sym i.0 ∙ at_end mid.0 mid.1 (sym g)
