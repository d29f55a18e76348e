-- The links of edges, where an edge comes, the last one goes, or points go.
use Rattle.std.proofs.Common.{◌≡◌, ◌≢◌, ℕ, ◌+◌, ◌-◌, ◌<◌, ◌≤◌, List, [], ◌∷◌, ◌++◌, get_or, set, take, max, length, All, ap, sym, subst, ◌∙◌, inl, inr, arith}
use Rattle.std.proofs.Math.Seq.{get_or-append_seam}
use Rattle.std.proofs.lemmas.Bool.{cases_eq, cases_lt}
use Rattle.std.proofs.lemmas.List.{get_or_append_left, get_or-set_same, get_or-set_other, get_or-take, get_or_past, length-append, length-set, length-take-le, take_all}
use Rattle.stp_network.specs.declared.edge.Edge.{Edge}
use Rattle.stp_base.specs.declared.limits.TheConstants.{MAX_CONSTRAINTS}
use Rattle.stp_network.specs.Edges.{IsMetBy, IsSmall}
use Rattle.stp_network.specs.Raising.{AreLinked, IsLink}
use Rattle.stp_network.specs.Rows.{IsKept}

-- what holds of all edges and of one more
pub all_more : (P : Edge → Type 0) (es : List Edge) (e : Edge) → All P es → P e → All P (es ++ e ∷ [])
all_more P es e all one i d lt = elim (cases_lt i (length es)) [
  | inl inside ↦ subst P (sym (get_or_append_left es (e ∷ []) d i inside)) (all i d inside)
  | inr last ↦
      let here : i ≡ length es = omega (arith, length-append es (e ∷ [])) in
      let is : get_or (es ++ e ∷ []) i d ≡ e = ap (λ j. get_or (es ++ e ∷ []) j d) here ∙ get_or-append_seam es e [] d in
      subst P (sym is) one
]

pub all_fewer : (P : Edge → Type 0) (es : List Edge) (e : Edge) → All P (es ++ e ∷ []) → All P es
all_fewer P es e all i d lt = subst P (get_or_append_left es (e ∷ []) d i lt) (all i d (omega (arith, length-append es (e ∷ []))))

-- a link among the edges there were, with one more edge behind them
link_append : (es : List Edge) (e : Edge) (p upto link : ℕ) → upto ≤ length es → IsLink es p upto link → IsLink (es ++ e ∷ []) p upto link
link_append es e p upto link fits old = record {
  within = old.within;
  here = λ d some. ap (λ x. x.to) (get_or_append_left es (e ∷ []) d (link - 1) (omega (arith, old.within))) ∙ old.here d some;
  none = λ k d from lt is. old.none k d from lt (sym (ap (λ x. x.to) (get_or_append_left es (e ∷ []) d k (omega arith))) ∙ is);
}

link_without : (es : List Edge) (e : Edge) (p upto link : ℕ) → upto ≤ length es → IsLink (es ++ e ∷ []) p upto link → IsLink es p upto link
link_without es e p upto link fits old = record {
  within = old.within;
  here = λ d some. sym (ap (λ x. x.to) (get_or_append_left es (e ∷ []) d (link - 1) (omega (arith, old.within)))) ∙ old.here d some;
  none = λ k d from lt is. old.none k d from lt (ap (λ x. x.to) (get_or_append_left es (e ∷ []) d k (omega arith)) ∙ is);
}

-- the link to the new edge
link_new : (es : List Edge) (e : Edge) → IsLink (es ++ e ∷ []) e.to (length (es ++ e ∷ [])) (length es + 1)
link_new es e = record {
  within = omega (arith, length-append es (e ∷ []));
  here = λ d some.
      let at : length es + 1 - 1 ≡ length es = omega arith in
      ap (λ x. x.to) (ap (λ j. get_or (es ++ e ∷ []) j d) at ∙ get_or-append_seam es e [] d);
  none = λ k d from lt is. absurd (omega (arith, length-append es (e ∷ [])));
}

-- a link to the last edge to another point
link_other : (es : List Edge) (e : Edge) (p link : ℕ) → p ≢ e.to → IsLink es p (length es) link → IsLink (es ++ e ∷ []) p (length (es ++ e ∷ [])) link
link_other es e p link other old =
    let longer : IsLink (es ++ e ∷ []) p (length es) link = link_append es e p (length es) link (omega arith) old in
    record {
      within = omega (arith, old.within, length-append es (e ∷ []));
      here = longer.here;
      none = λ k d from lt is. elim (cases_lt k (length es)) [
        | inl inside ↦ longer.none k d from inside is
        | inr last ↦
            let at : k ≡ length es = omega (arith, length-append es (e ∷ [])) in
            let same : get_or (es ++ e ∷ []) k d ≡ e = ap (λ j. get_or (es ++ e ∷ []) j d) at ∙ get_or-append_seam es e [] d in
            other (sym is ∙ ap (λ x. x.to) same)
      ];
    }

link_before : (es : List Edge) (e : Edge) (p link : ℕ) → p ≢ e.to → IsLink (es ++ e ∷ []) p (length (es ++ e ∷ [])) link → IsLink es p (length es) link
link_before es e p link other old = elim (cases_lt (length es) link) [
  | inl last ↦
      let at : link - 1 ≡ length es = omega (arith, old.within, length-append es (e ∷ [])) in
      let same : get_or (es ++ e ∷ []) (link - 1) e ≡ e = ap (λ j. get_or (es ++ e ∷ []) j e) at ∙ get_or-append_seam es e [] e in
      absurd (other (sym (old.here e (omega arith)) ∙ ap (λ x. x.to) same))
  | inr inside ↦ link_without es e p (length es) link (omega arith) (record {
    within = inside;
    here = old.here;
    none = λ k d from lt is. old.none k d from (omega (arith, length-append es (e ∷ []))) is;
  })
]

linked_put : (n : ℕ) (es : List Edge) (heads : List ℕ) (e : Edge) → AreLinked n es heads → e.from < n → e.to < n → IsSmall e → e.next ≡ get_or heads e.to 0 →
    length es < MAX_CONSTRAINTS → AreLinked n (es ++ e ∷ []) (set heads e.to (length es + 1))
linked_put n es heads e linked from to small next few =
    let inside : e.to < length heads = omega (arith, linked.rows) in
    record {
      rows = length-set heads e.to (length es + 1) ∙ linked.rows;
      count = omega (arith, length-append es (e ∷ []));
      first = λ p lt. elim (cases_eq p e.to) [
        | inl same ↦
            let is : get_or (set heads e.to (length es + 1)) p 0 ≡ length es + 1 = ap (λ i. get_or (set heads e.to (length es + 1)) i 0) same ∙ get_or-set_same heads e.to (length es + 1) 0 inside in
            let P : ℕ → Type 0 = λ l. IsLink (es ++ e ∷ []) p (length (es ++ e ∷ [])) l in
            let Q : ℕ → Type 0 = λ q. IsLink (es ++ e ∷ []) q (length (es ++ e ∷ [])) (length es + 1) in
            subst P (sym is) (subst Q (sym same) (link_new es e))
        | inr other ↦
            let P : ℕ → Type 0 = λ l. IsLink (es ++ e ∷ []) p (length (es ++ e ∷ [])) l in
            subst P (sym (get_or-set_other heads e.to p (length es + 1) 0 other)) (link_other es e p (get_or heads p 0) other (linked.first p lt))
      ];
      next = λ k d lt. elim (cases_lt k (length es)) [
        | inl before ↦
            let P : Edge → Type 0 = λ x. IsLink (es ++ e ∷ []) x.to k x.next in
            subst P (sym (get_or_append_left es (e ∷ []) d k before))
            (link_append es e (get_or es k d).to k (get_or es k d).next (omega arith) (linked.next k d before))
        | inr last ↦
            let at : k ≡ length es = omega (arith, length-append es (e ∷ [])) in
            let same : get_or (es ++ e ∷ []) k d ≡ e = ap (λ j. get_or (es ++ e ∷ []) j d) at ∙ get_or-append_seam es e [] d in
            let P : Edge → Type 0 = λ x. IsLink (es ++ e ∷ []) x.to k x.next in
            let Q : ℕ → Type 0 = λ j. IsLink (es ++ e ∷ []) e.to j e.next in
            let R : ℕ → Type 0 = λ l. IsLink (es ++ e ∷ []) e.to (length es) l in
            subst P (sym same) (subst Q (sym at) (subst R (sym next) (link_append es e e.to (length es) (get_or heads e.to 0) (omega arith) (linked.first e.to to))))
      ];
      from = all_more (λ x. x.from < n) es e linked.from from;
      to = all_more (λ x. x.to < n) es e linked.to to;
      small = all_more IsSmall es e linked.small small;
    }

linked_taken : (n : ℕ) (es : List Edge) (heads : List ℕ) (e : Edge) → AreLinked n (es ++ e ∷ []) heads → AreLinked n es (set heads e.to e.next)
linked_taken n es heads e linked =
    let last : length es < length (es ++ e ∷ []) = omega (arith, length-append es (e ∷ [])) in
    let is_e : get_or (es ++ e ∷ []) (length es) e ≡ e = get_or-append_seam es e [] e in
    let to : e.to < n = let P : Edge → Type 0 = λ x. x.to < n in subst P is_e (linked.to (length es) e last) in
    let inside : e.to < length heads = omega (arith, linked.rows) in
    record {
      rows = length-set heads e.to e.next ∙ linked.rows;
      count = omega (arith, linked.count);
      first = λ p lt. elim (cases_eq p e.to) [
        | inl same ↦
            let is : get_or (set heads e.to e.next) p 0 ≡ e.next = ap (λ i. get_or (set heads e.to e.next) i 0) same ∙ get_or-set_same heads e.to e.next 0 inside in
            let P : Edge → Type 0 = λ x. IsLink (es ++ e ∷ []) x.to (length es) x.next in
            let Q : ℕ → Type 0 = λ q. IsLink es q (length es) e.next in
            let R : ℕ → Type 0 = λ l. IsLink es p (length es) l in
            subst R (sym is) (subst Q (sym same) (link_without es e e.to (length es) e.next (omega arith) (subst P is_e (linked.next (length es) e last))))
        | inr other ↦
            let R : ℕ → Type 0 = λ l. IsLink es p (length es) l in
            subst R (sym (get_or-set_other heads e.to p e.next 0 other)) (link_before es e p (get_or heads p 0) other (linked.first p lt))
      ];
      next = λ k d lt.
          let P : Edge → Type 0 = λ x. IsLink (es ++ e ∷ []) x.to k x.next in
          link_without es e (get_or es k d).to k (get_or es k d).next (omega arith)
          (subst P (get_or_append_left es (e ∷ []) d k lt) (linked.next k d (omega arith)));
      from = all_fewer (λ x. x.from < n) es e linked.from;
      to = all_fewer (λ x. x.to < n) es e linked.to;
      small = all_fewer IsSmall es e linked.small;
    }

-- an edge comes that the times meet
pub kept_put : (limit : ℕ) (times heads : List ℕ) (es : List Edge) (e : Edge) → IsKept limit times heads es → e.from < length times → e.to < length times → IsSmall e →
    e.next ≡ get_or heads e.to 0 → length es < MAX_CONSTRAINTS → IsMetBy (λ q. get_or times q 0) e → IsKept limit times (set heads e.to (length es + 1)) (es ++ e ∷ [])
kept_put limit times heads es e kept from to small next few met = record {
  linked = linked_put (length times) es heads e kept.linked from to small next few;
  potential = record {
    origin = kept.potential.origin;
    met = all_more (IsMetBy (λ q. get_or times q 0)) es e kept.potential.met met;
  };
  low = kept.low;
  few = kept.few;
  count = omega (arith, length-append es (e ∷ []));
}

-- the last edge goes
pub kept_taken : (limit : ℕ) (times heads : List ℕ) (es : List Edge) (e : Edge) → IsKept limit times heads (es ++ e ∷ []) → IsKept limit times (set heads e.to e.next) es
kept_taken limit times heads es e kept = record {
  linked = linked_taken (length times) es heads e kept.linked;
  potential = record {
    origin = kept.potential.origin;
    met = all_fewer (IsMetBy (λ q. get_or times q 0)) es e kept.potential.met;
  };
  low = kept.low;
  few = kept.few;
  count = omega (arith, kept.count, length-append es (e ∷ []));
}

-- points go of which no edge speaks
pub kept_cut : (limit n : ℕ) (times heads : List ℕ) (es : List Edge) → IsKept limit times heads es → 0 < n → n ≤ length times → All (λ e. e.from < n) es → All (λ e. e.to < n) es →
    IsKept limit (take n times) (take n heads) es
kept_cut limit n times heads es kept some fits from to =
    let counted : length (take n times) ≡ n = length-take-le n times fits in
    let P : ℕ → Type 0 = λ m. AreLinked m es (take n heads) in
    let linked : AreLinked n es (take n heads) = record {
      rows = length-take-le n heads (omega (arith, kept.linked.rows));
      count = kept.linked.count;
      first = λ p lt. let Q : ℕ → Type 0 = λ l. IsLink es p (length es) l in subst Q (sym (get_or-take n heads p 0 lt)) (kept.linked.first p (omega arith));
      next = kept.linked.next;
      from = from;
      to = to;
      small = kept.linked.small;
    } in
    record {
      linked = subst P (sym counted) linked;
      potential = record {
        origin = λ p lt. omega (arith, get_or-take n times 0 0 some, get_or-take n times p 0 (omega arith), kept.potential.origin p (omega arith));
        met = λ k d lt.
            let a : IsMetBy (λ q. get_or times q 0) (get_or es k d) = kept.potential.met k d lt in
            omega (arith, get_or-take n times (get_or es k d).from 0 (from k d lt), get_or-take n times (get_or es k d).to 0 (to k d lt));
      };
      low = λ p. elim (cases_lt p n) [
        | inl inside ↦ omega (arith, get_or-take n times p 0 inside, kept.low p)
        | inr outside ↦ omega (arith, get_or_past (take n times) p 0 (omega arith))
      ];
      few = omega (arith, kept.few);
      count = kept.count;
    }

-- points go, or there is not even the origin
pub kept_first : (limit n : ℕ) (times heads : List ℕ) (es : List Edge) → IsKept limit times heads es → 0 < n → n ≤ max 1 (length times) → All (λ e. e.from < n) es → All (λ e. e.to < n) es →
    IsKept limit (take n times) (take n heads) es
kept_first limit n times heads es kept some fits from to = elim (cases_lt 0 (length times)) [
  | inl points ↦ kept_cut limit n times heads es kept some (omega arith) from to
  | inr none ↦
      let t : take n times ≡ times = take_all n times (omega arith) in
      let h : take n heads ≡ heads = take_all n heads (omega (arith, kept.linked.rows)) in
      let P : List ℕ → Type 0 = λ x. IsKept limit x (take n heads) es in
      let Q : List ℕ → Type 0 = λ x. IsKept limit times x es in
      subst P (sym t) (subst Q (sym h) kept)
]
