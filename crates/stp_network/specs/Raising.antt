-- How times move forward from a new constraint, over the constraints that are kept.
use Rattle.std.specs.Prelude.{◌≡◌, ◌≢◌, ℕ, ◌+◌, ◌-◌, ◌<◌, ◌≤◌, ◌^◌, Bool, true, false, List, length, slice_index, slice_index_or, All}
use Rattle.stp_network.specs.declared.edge.Edge.{Edge}
use Rattle.stp_network.specs.declared.limits.TheConstants.{LATEST_KEPT}
use Rattle.stp_network.specs.Edges.{IsMetBy, IsSmall, lag_of, lead_of}

-- times that meet all edges, with no point before the origin, which itself may have any time
pub record IsPotential (points : ℕ) (edges : List Edge) (time : ℕ → ℕ) : Type 0 where
  pub origin : (p : ℕ) → p < points → time 0 ≤ time p
  pub met : All (IsMetBy time) edges

-- a link names, by its number from 1, the last of the first so many edges to a point; 0 where there is none
pub record IsLink (edges : List Edge) (point upto link : ℕ) : Type 0 where
  pub within : link ≤ upto
  pub here : (d : Edge) → 0 < link → (slice_index_or edges (link - 1) d).to ≡ point
  pub none : (k : ℕ) (d : Edge) → link ≤ k → k < upto → (slice_index_or edges k d).to ≢ point

-- each point has a link to its last edge, and each edge one to the edge before it to the same point
pub record AreLinked (points : ℕ) (edges : List Edge) (heads : List ℕ) : Type 0 where
  pub rows : length heads ≡ points
  pub count : length edges < 2 ^ 32
  pub first : (p : ℕ) → p < points → IsLink edges p (length edges) (slice_index heads p)
  pub next : (k : ℕ) (d : Edge) → k < length edges →
      IsLink edges (slice_index_or edges k d).to k (slice_index_or edges k d).next
  pub from : All (λ e. e.from < points) edges
  pub to : All (λ e. e.to < points) edges
  pub small : All IsSmall edges

-- kept times, links and a new constraint
pub record IsSetting (edges : List Edge) (heads times : List ℕ) (fresh : Edge) : Type 0 where
  pub linked : AreLinked (length times) edges heads
  pub potential : IsPotential (length times) edges (slice_index times)
  pub low : (p : ℕ) → slice_index times p ≤ LATEST_KEPT
  pub from : fresh.from < length times
  pub to : fresh.to < length times
  pub small : IsSmall fresh

-- no times meet the edges and the new constraint
abbrev pub HasNoPotential : ℕ → List Edge → Edge → Type 0
HasNoPotential points edges fresh = (time : ℕ → ℕ) → IsPotential points edges time → ¬ IsMetBy time fresh

-- whatever times meet all, a point is in them at least as far after the new constraint's second point as here
abbrev pub IsForced : List Edge → List ℕ → Edge → List ℕ → ℕ → Type 0
IsForced edges times fresh work p = (time : ℕ → ℕ) → IsPotential (length times) edges time → IsMetBy time fresh →
    slice_index work p + time fresh.to ≤ time p + slice_index times fresh.to

-- how much the kept times are short of what a constraint asks
abbrev pub shortfall : List ℕ → Edge → ℕ
shortfall times fresh = slice_index times fresh.to + lag_of fresh - (slice_index times fresh.from + lead_of fresh)

-- times on their way forward: what a marked point asks of others is still to be looked at
pub record IsRaised (edges : List Edge) (times : List ℕ) (fresh : Edge) (work : List ℕ) (marks : List Bool) : Type 0 where
  pub count : length work ≡ length times
  pub flags : length marks ≡ length times
  pub still : slice_index work fresh.to ≡ slice_index times fresh.to
  pub capped : (p : ℕ) → slice_index work p ≤ slice_index times p + shortfall times fresh
  pub forced : (p : ℕ) → slice_index_or marks p false ≡ true → IsForced edges times fresh work p
  pub met : (k : ℕ) (d : Edge) → k < length edges →
      slice_index_or marks (slice_index_or edges k d).to false ≡ false → IsMetBy (slice_index work) (slice_index_or edges k d)
  pub origin : slice_index_or marks 0 false ≡ false → (p : ℕ) → p < length times → slice_index work 0 ≤ slice_index work p

-- one point has to come a lag after another, less a lead: in the kept times, and in all that meet the edges
pub record IsPrecedence (edges : List Edge) (times : List ℕ) (point other lag lead : ℕ) : Type 0 where
  pub kept : slice_index times point + lag ≤ slice_index times other + lead
  pub always : (time : ℕ → ℕ) → IsPotential (length times) edges time → time point + lag ≤ time other + lead

abbrev pub NoneFalls : List ℕ → List ℕ → Type 0
NoneFalls before after = (p : ℕ) → slice_index before p ≤ slice_index after p

abbrev pub StayMarked : List Bool → List Bool → Type 0
StayMarked before after = (p : ℕ) → slice_index_or before p false ≡ true → slice_index_or after p false ≡ true

-- the edges to a point are met
abbrev pub AreMetAt : List Edge → ℕ → List ℕ → Type 0
AreMetAt edges point work = (k : ℕ) (d : Edge) → k < length edges →
    (slice_index_or edges k d).to ≡ point → IsMetBy (slice_index work) (slice_index_or edges k d)

-- no point is before the origin
abbrev pub IsFirst : ℕ → List ℕ → Type 0
IsFirst points work = (p : ℕ) → p < points → slice_index work 0 ≤ slice_index work p
