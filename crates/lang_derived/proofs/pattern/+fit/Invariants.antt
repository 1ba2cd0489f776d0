-- The sizes of patterns fall; a loop over data has passed only such as fit.
use Rattle.std.proofs.Common.{◌≡◌, ◌+◌, ◌∷◌, [], length}
use Rattle.lang_derived.specs.Patterns.{pattern_size, patterns_size, all_data, is_some, fit_all}
use Rattle.lang_derived.specs.model.PatternView.{view_pattern, view_patterns}
use Rattle.lang_derived.proofs.pattern.+fit.Given as goal

abbrev pub decreases-fit : goal.decreases-fit
decreases-fit l = pattern_size (view_pattern l.pattern.now)

abbrev pub decreases-fit_inside : goal.decreases-fit_inside
decreases-fit_inside l = patterns_size (view_patterns l.patterns.now) + 1

abbrev pub decreases-each_fits : goal.decreases-each_fits
decreases-each_fits l = patterns_size (view_patterns l.patterns.now) + 1

abbrev pub decreases-fit_all : goal.decreases-fit_all
decreases-fit_all l = patterns_size (view_patterns l.patterns.now)

abbrev pub invariant-each_fits-loop-rest : goal.invariant-each_fits-loop-rest
invariant-each_fits-loop-rest l =
    all_data (λ d. is_some (fit_all l.names (view_patterns l.patterns) (d ∷ []))) l.rest
    ≡ all_data (λ d. is_some (fit_all l.names (view_patterns l.patterns) (d ∷ []))) l.items

abbrev pub decreases-each_fits-loop-rest : goal.decreases-each_fits-loop-rest
decreases-each_fits-loop-rest l = length l.rest
