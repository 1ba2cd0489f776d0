-- What was added to no list is all that is warned of, and is then sorted by places.
use Rattle.std.proofs.Common.{rules, subst, ap, ◌∙◌, ◌++◌, List}
use Rattle.std.specs.List.Sorted.{IsPermutation}
use Rattle.std.proofs.lemmas.List.Sorted.{IsNonDecreasingBy-from_sort_by_key}
use Rattle.lang_warnings.specs.declared.warning.Warning.{Warning}
use Rattle.lang_warnings.specs.Warnings.{all_warnings, place_number}
use Rattle.lang_warnings.proofs.warnings.in_order.Goals as goal

pub returns : goal.returns
returns c =
    let names = c.args.known.now.names.now in
    let program = c.args.known.now.program.now in record {
      same =
          subst (λ (list : List Warning). IsPermutation list c.sort_by_key.new.self.items)
          (c.in_ok-add_program.ensures ∙ ap (λ (list : List Warning). list ++ all_warnings names program) c.new-list.ensures.items)
          c.sort_by_key.ensures.permutation;
      rising =
          IsNonDecreasingBy-from_sort_by_key (λ (w : Warning). place_number w.place) _ c.in_ok-sort_by_key.ensures.sorted
          (λ a r q k. search rules);
    }
