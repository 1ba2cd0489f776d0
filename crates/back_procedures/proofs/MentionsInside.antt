-- How often a form names variables is how often it does itself and the forms right inside it do.
use Rattle.std.proofs.Common.{◌≡◌, ◌+◌, List, [], ◌∷◌, Option, Some, None, arith}
use Rattle.std.specs.List.{sum_by}
use Rattle.std.proofs.lemmas.List.Sums.{sum_by-cons}
use Rattle.flat_language.specs.declared.flat_core.FlatClause.{FlatClause}
use Rattle.flat_language.specs.declared.flat_core.FlatBinding.{FlatBinding}
use Rattle.flat_language.specs.declared.flat_core.FlatDynBinding.{FlatDynBinding}
use Rattle.flat_language.specs.FlatForm.{FlatForm, literal}
use Rattle.flat_language.specs.model.View.{forms, clauses_of, bindings_of, dynamics_of}
use Rattle.flat_boxes.specs.Totals.{total_of_forms, total_of_clauses, total_of_values, total_of_dynamics}
use Rattle.back_lowering.specs.Mentions.{own_mentions, mentions}
use Rattle.back_procedures.specs.Mentioned.{mentions_inside, clause_mentions, value_mentions, dynamic_mentions}

pub own_and_inside : (f : FlatForm) → mentions f ≡ own_mentions f + mentions_inside f
own_and_inside (literal i) = omega arith
own_and_inside w = omega arith

-- the mirror of a list has the same sum
pub forms_summed : (xs : List FlatForm) → total_of_forms own_mentions (forms xs) ≡ sum_by mentions xs
forms_summed [] = omega arith
forms_summed (x ∷ xs) = omega (arith, forms_summed xs, sum_by-cons mentions x xs)

pub values_summed : (xs : List FlatBinding) → total_of_values own_mentions (bindings_of xs) ≡ sum_by value_mentions xs
values_summed [] = omega arith
values_summed (x ∷ xs) = omega (arith, values_summed xs, sum_by-cons value_mentions x xs)

pub dynamics_summed : (xs : List FlatDynBinding) → total_of_dynamics own_mentions (dynamics_of xs) ≡ sum_by dynamic_mentions xs
dynamics_summed [] = omega arith
dynamics_summed (x ∷ xs) = omega (arith, dynamics_summed xs, sum_by-cons dynamic_mentions x xs)

clause_summed : (t : FlatForm) (b : Option FlatForm) (xs : List FlatClause)
    → total_of_clauses own_mentions (clauses_of (record { test = t; body = b } ∷ xs))
    ≡ clause_mentions (record { test = t; body = b }) + total_of_clauses own_mentions (clauses_of xs)
clause_summed t None xs = omega arith
clause_summed t (Some f) xs = omega arith

pub clauses_summed : (xs : List FlatClause) → total_of_clauses own_mentions (clauses_of xs) ≡ sum_by clause_mentions xs
clauses_summed [] = omega arith
clauses_summed (x ∷ xs) = omega (arith, clause_summed x.test x.body xs, clauses_summed xs, sum_by-cons clause_mentions x xs)
