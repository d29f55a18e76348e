-- The sections of a problem, one by one.
use Rattle.std.proofs.Common.{◌≡◌, ℕ, Bool, true, false, ◌||◌, if◌then◌else◌, List, [], ◌++◌, Option, Some, None, is_some, refl, ap, ◌∙◌}
use Rattle.stp_text.specs.Tree.{Tree, Trees, Word, Node, NoMore, More}
use Rattle.stp_text.specs.Items.{place}
use Rattle.stp_refusal.specs.declared.code.Code.TheVariants.{P03, P04}
use Rattle.stp_refusal.specs.Read.{Read, bad, fine, given, offence_at}
use Rattle.stp_domain_parts.specs.declared.key.ProblemKey.{ProblemKey}
use Rattle.stp_domain_parts.specs.declared.key.ProblemKey.TheVariants.{Domain, Requirements, Metric, Objects, Init, Goal}
use Rattle.stp_domain_parts.specs.Problem.{Section, Sections, no_sections, own_offences, has_section, with_section, section_known, section_read, sections_read}
use Rattle.stp_domain_parts.specs.ProblemLaws.{key_of, section_of_tree, is_section, is_same, first_section, section_at, stands_in, wrong_by, section_wrong, sections_wrong, SectionIsFirst, OneByOne}
use Rattle.stp_domain_parts.proofs.Choices.{otherwise, otherwise_none, none_otherwise, filled, unchanged, chain, some_of_two}

-- a section by its key, if that is known
abbrev by : List ℕ → Sections → Section → Option ProblemKey → Read Sections
by domain found section key = given (bad section.at P03 found) (section_known domain found section.at section.items) key

read_by : (domain : List ℕ) (found : Sections) (t : Tree) → section_read domain found t ≡ by domain found (section_of_tree t) (key_of t)
read_by domain found (Word at text) = refl
read_by domain found (Node at NoMore) = refl
read_by domain found (Node at (More (Word place text) ts)) = refl
read_by domain found (Node at (More (Node place items) ts)) = refl

-- ---- the sections

at_choice : (key : ProblemKey) (at : ℕ) (b : Bool) (found new : Sections) → section_at key (if b then bad at P04 found else fine new).value ≡ (if b then section_at key found else section_at key new)
at_choice key at true found new = refl
at_choice key at false found new = refl

once_step : (key other : ProblemKey) (section : Section) (found : Sections) → (if has_section other found then section_at key found else section_at key (with_section other section found)) ≡ otherwise (section_at key found) (if is_same key other then Some section else None)
once_step Domain Domain section found = filled found.domain section
once_step Requirements Requirements section found = filled found.requirements section
once_step Metric Metric section found = filled found.metric section
once_step Objects Objects section found = filled found.objects section
once_step Init Init section found = filled found.init section
once_step Goal Goal section found = filled found.goal section
once_step key other section found = unchanged (has_section other found) (section_at key found)

by_key : (domain : List ℕ) (key : ProblemKey) (k : Option ProblemKey) (section : Section) (found : Sections) → section_at key (by domain found section k).value ≡ otherwise (section_at key found) (if is_section key k then Some section else None)
by_key domain key None section found = otherwise_none (section_at key found)
by_key domain key (Some other) section found = at_choice key section.at (has_section other found) found (with_section other section found) ∙ once_step key other section found

read_step : (domain : List ℕ) (key : ProblemKey) (t : Tree) (found : Sections) → section_at key (section_read domain found t).value ≡ otherwise (section_at key found) (if is_section key (key_of t) then Some (section_of_tree t) else None)
read_step domain key t found = ap (λ r. section_at key r.value) (read_by domain found t) ∙ by_key domain key (key_of t) (section_of_tree t) found

first_of_all : (domain : List ℕ) (key : ProblemKey) (found : Sections) (ts : Trees) → section_at key (sections_read domain found ts).value ≡ otherwise (section_at key found) (first_section key ts)
first_of_all domain key found NoMore = otherwise_none (section_at key found)
first_of_all domain key found (More t ts) =
    first_of_all domain key (section_read domain found t).value ts
    ∙ ap (λ o. otherwise o (first_section key ts)) (read_step domain key t found)
    ∙ chain (section_at key found) (is_section key (key_of t)) (section_of_tree t) (first_section key ts)

none_at : (key : ProblemKey) → section_at key no_sections ≡ None
none_at Domain = refl
none_at Requirements = refl
none_at Metric = refl
none_at Objects = refl
none_at Init = refl
none_at Goal = refl

pub section_is_first : SectionIsFirst
section_is_first domain key ts = first_of_all domain key no_sections ts ∙ ap (λ o. otherwise o (first_section key ts)) (none_at key) ∙ none_otherwise (first_section key ts)

-- ---- the offences

-- the sections that were found stand before
record Seen (found : Sections) (before : Trees) : Type 0 where
  same : (key : ProblemKey) → is_some (section_at key found) ≡ stands_in key before

has_is : (key : ProblemKey) (found : Sections) → has_section key found ≡ is_some (section_at key found)
has_is Domain found = refl
has_is Requirements found = refl
has_is Metric found = refl
has_is Objects found = refl
has_is Init found = refl
has_is Goal found = refl

seen_next : (domain : List ℕ) (found : Sections) (before : Trees) (t : Tree) → Seen found before → Seen (section_read domain found t).value (More t before)
seen_next domain found before t seen = record {
  same = λ key.
      ap is_some (read_step domain key t found)
      ∙ some_of_two (section_at key found) (is_section key (key_of t)) (section_of_tree t)
      ∙ ap (λ b. is_section key (key_of t) || b) (seen.same key);
}

seen_none : Seen no_sections NoMore
seen_none = record { same = λ key. ap is_some (none_at key) }

repeated : (at : ℕ) (b : Bool) (found new : Sections) → (if b then bad at P04 found else fine new).offences ≡ (if b then offence_at at P04 else [])
repeated at true found new = refl
repeated at false found new = refl

wrong_step : (domain : List ℕ) (found : Sections) (before : Trees) (k : Option ProblemKey) (section : Section) → Seen found before → (by domain found section k).offences ≡ wrong_by domain before k section
wrong_step domain found before None section seen = refl
wrong_step domain found before (Some key) section seen =
    ap (λ os. own_offences domain key section.at section.items ++ os)
    (repeated section.at (has_section key found) found (with_section key section found)
    ∙ ap (λ b. if b then offence_at section.at P04 else []) (has_is key found ∙ seen.same key))

wrong_on : (domain : List ℕ) (found : Sections) (before ts : Trees) → Seen found before → (sections_read domain found ts).offences ≡ sections_wrong domain before ts
wrong_on domain found before NoMore seen = refl
wrong_on domain found before (More t ts) seen =
    ap (λ r. r.offences ++ (sections_read domain (section_read domain found t).value ts).offences) (read_by domain found t)
    ∙ ap (λ os. os ++ (sections_read domain (section_read domain found t).value ts).offences) (wrong_step domain found before (key_of t) (section_of_tree t) seen)
    ∙ ap (λ os. section_wrong domain before t ++ os) (wrong_on domain (section_read domain found t).value (More t before) ts (seen_next domain found before t seen))

pub one_by_one : OneByOne
one_by_one domain ts = wrong_on domain no_sections NoMore ts seen_none
