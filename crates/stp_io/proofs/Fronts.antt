-- Fronts of files and of texts, part by part.
use Rattle.std.proofs.Common.{◌≡◌, ◌≤◌, ◌+◌, ◌-◌, ℕ, List, ◌++◌, length, take, drop, Option, Some, None, sym, ap, ◌∙◌, subst, arith, option_map, IfSome, append_assoc, length-append, length-drop}
use Rattle.std.proofs.Math.Seq.{take-add}
use Rattle.std.proofs.lemmas.List.{length-take-le, take-append-le}
use Rattle.std.proofs.lemmas.Slice.{between_to_end}
use Rattle.std.specs.List.{between}
use Rattle.stp_io.specs.Store.{IsRead}

-- the next part of a text, after what of it was written
pub written_on : (text : List ℕ) (done n : ℕ) (first now new : Option (List ℕ)) → now ≡ option_map (λ w. w ++ take done text) first → new ≡ option_map (λ w. w ++ take n (between done (length text) text)) now
    → new ≡ option_map (λ w. w ++ take (done + n) text) first
written_on text done n None now new h e = e ∙ ap (option_map (λ w. w ++ take n (between done (length text) text))) h
written_on text done n (Some w) now new h e =
    e ∙ ap (option_map (λ (v : List ℕ). v ++ take n (between done (length text) text))) h
    ∙ ap Some (append_assoc w (take done text) (take n (between done (length text) text))
    ∙ ap (λ (v : List ℕ). w ++ (take done text ++ take n v)) (between_to_end text done (length text) (omega arith))
    ∙ ap (λ (v : List ℕ). w ++ v) (sym (take-add done n text)))

-- the next bytes of a file, after a front of it
pub front_on : (bytes text piece : List ℕ) (n : ℕ) → text ≡ take (length text) bytes → piece ≡ take n (drop (length text) bytes) → n ≤ length bytes - length text
    → text ++ piece ≡ take (length (text ++ piece)) bytes
front_on bytes text piece n h e within =
    let size : length piece ≡ n = ap length e ∙ length-take-le n (drop (length text) bytes) (omega (arith, length-drop (length text) bytes)) in
    rw (length-append text piece, size, take-add (length text) n bytes) (ap (λ (v : List ℕ). v ++ piece) h ∙ ap (λ (v : List ℕ). take (length text) bytes ++ v) e)

-- the same where the file is told, and the front of a buffer was read, which goes on with other bytes
pub front_more : (first now : Option (List ℕ → Option (List ℕ))) (name text slice buffer more new : List ℕ) (n : ℕ) → now ≡ first → slice ≡ text
    → IfSome first (λ f. IfSome (f name) (λ bytes. text ≡ take (length text) bytes)) → IfSome now (λ f. IsRead (f name) (length slice) n buffer) → n ≤ length buffer → new ≡ text ++ take n (buffer ++ more)
    → IfSome first (λ f. IfSome (f name) (λ bytes. new ≡ take (length new) bytes))
front_more None now name text slice buffer more new n same is front read fits longer = tt
front_more (Some f) now name text slice buffer more new n same is front read fits longer =
    let r : IsRead (f name) (length text) n buffer = subst (λ (v : List ℕ). IsRead (f name) (length v) n buffer) is (subst (λ o. IfSome o (λ h. IsRead (h name) (length slice) n buffer)) same read) in
    let before : text ≡ take (length text) r.0 = subst (λ o. IfSome o (λ bytes. text ≡ take (length text) bytes)) r.1 front in
    let next : take n (buffer ++ more) ≡ take n (drop (length text) r.0) = take-append-le n buffer more fits ∙ r.2.next in
    let whole : text ++ take n (buffer ++ more) ≡ take (length (text ++ take n (buffer ++ more))) r.0 = front_on r.0 text (take n (buffer ++ more)) n before next r.2.inside in
    subst (λ o. IfSome o (λ bytes. new ≡ take (length new) bytes)) (sym r.1) (subst (λ (v : List ℕ). v ≡ take (length v) r.0) (sym longer) whole)

-- how long the text is then
pub length_more : (text buffer more new : List ℕ) (n : ℕ) → n ≤ length buffer → new ≡ text ++ take n (buffer ++ more) → length new ≡ length text + n
length_more text buffer more new n fits longer =
    ap length longer ∙ length-append text (take n (buffer ++ more))
    ∙ ap (λ (v : List ℕ). length text + length v) (take-append-le n buffer more fits) ∙ ap (λ k. length text + k) (length-take-le n buffer fits)
