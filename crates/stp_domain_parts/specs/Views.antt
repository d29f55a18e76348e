-- What the structs of the parts stand for.
use Rattle.std.specs.Borrow.{Bor}
use Rattle.std.specs.Prelude.{List, Option, map, option_map}
use Rattle.stp_text.specs.declared.sexpr.Sexpr.{Sexpr}
use Rattle.stp_text.specs.Tree.{Tree, Trees, view, views}
use Rattle.stp_domain_parts.specs.declared.action.ActionParts.{ActionParts}
use Rattle.stp_domain_parts.specs.declared.action.TimingParts.{TimingParts}
use Rattle.stp_domain_parts.specs.declared.action.TimingParts.TheVariants as timings
use Rattle.stp_domain_parts.specs.declared.action.Values.{Values as FoundValues}
use Rattle.stp_domain_parts.specs.declared.domain.DomainParts.{DomainParts}
use Rattle.stp_domain_parts.specs.declared.domain.Found.{Found as FoundSections}
use Rattle.stp_domain_parts.specs.Actions.{Action, Timing, Instant, Controlled, Uncertain, Values}
use Rattle.stp_domain_parts.specs.Domain.{Domain, Sections}

abbrev pub tree_in : Option (Bor Sexpr) → Option Tree
tree_in found = option_map (λ t. view t.now) found

abbrev pub items_in : Option (Bor (List Sexpr)) → Option Trees
items_in found = option_map (λ ts. views ts.now) found

abbrev pub values_of : FoundValues → Values
values_of found = record {
  parameters = items_in found.parameters;
  condition = tree_in found.condition;
  effect = tree_in found.effect;
  duration = tree_in found.duration;
  uncertain = tree_in found.uncertain;
}

abbrev pub timing_of : TimingParts → Timing
timing_of timings.Instant = Instant
timing_of (timings.Controlled duration) = Controlled (view duration.now)
timing_of (timings.Uncertain duration) = Uncertain (view duration.now)

abbrev pub action_of : ActionParts → Action
action_of action = record {
  at = action.at;
  name_at = action.name_at;
  name = action.name.now;
  parameters = views action.parameters.now;
  timing = timing_of action.timing;
  condition = tree_in action.condition;
  effect = tree_in action.effect;
}

abbrev pub sections_of : FoundSections → Sections
sections_of found = record {
  requirements = items_in found.requirements;
  types = items_in found.types;
  constants = items_in found.constants;
  predicates = items_in found.predicates;
  functions = items_in found.functions;
  actions = map action_of found.actions;
}

abbrev pub domain_of : DomainParts → Domain
domain_of domain = record {
  name = domain.name.now;
  types = views domain.types.now;
  constants = views domain.constants.now;
  predicates = views domain.predicates.now;
  functions = views domain.functions.now;
  actions = map action_of domain.actions.now;
}
