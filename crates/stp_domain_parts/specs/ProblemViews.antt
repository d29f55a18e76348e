-- What the structs of a problem's parts stand for.
use Rattle.std.specs.Prelude.{option_map}
use Rattle.stp_text.specs.Tree.{view, views}
use Rattle.stp_domain_parts.specs.declared.problem.ProblemParts.{ProblemParts}
use Rattle.stp_domain_parts.specs.declared.problem.Section.{Section as FoundSection}
use Rattle.stp_domain_parts.specs.declared.problem.Found.{Found}
use Rattle.stp_domain_parts.specs.Problem.{Problem, Section, Sections}

abbrev pub section_of : FoundSection → Section
section_of section = record { at = section.at; items = views section.items.now }

abbrev pub sections_of : Found → Sections
sections_of found = record {
  domain = option_map section_of found.domain;
  requirements = option_map section_of found.requirements;
  metric = option_map section_of found.metric;
  objects = option_map section_of found.objects;
  init = option_map section_of found.init;
  goal = option_map section_of found.goal;
}

abbrev pub problem_of : ProblemParts → Problem
problem_of problem = record {
  objects = views problem.objects.now;
  init = views problem.init.now;
  goal_at = problem.goal_at;
  goal = view problem.goal;
}
