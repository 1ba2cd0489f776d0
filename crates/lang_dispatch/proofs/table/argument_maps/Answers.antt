-- One argument more.
use Rattle.std.proofs.Common.{◌+◌, ◌++◌, ◌∷◌, [], suc, length, map, append_assoc, append-nil, length-append, sym, ap, ◌∙◌, arith}
use Rattle.std.specs.List.{range_with_len}
use Rattle.lang_meaning.specs.Cells.{groups}
use Rattle.lang_dispatch.specs.OfClasses.{with_classes}
use Rattle.lang_dispatch.specs.Tables.{map_of}
use Rattle.lang_dispatch.proofs.Making.{map_from_groups, maps_more}
use Rattle.lang_dispatch.proofs.table.argument_maps.Goals as goal

pub loop-argument-preserved : goal.loop-argument-preserved
loop-argument-preserved c =
    let program = with_classes c.args.classes.now in
    let g = c.args.generic.now in
    let at = c.loop-argument.argument in
    let found = c.in_ok-groups.groups in
    let map_here = map_of (length found.firsts) found.numbers in
    record {
      count = ap length c.in_ok-take.ensures.arguments ∙ length-append c.loop-argument.maps.arguments (map_here ∷ []) ∙ ap (λ n. n + 1) c.loop-argument.invariant.count;
      maps = maps_more program g c.loop-argument.maps.arguments c.take.new.self.arguments at map_here c.loop-argument.invariant.maps c.loop-argument.invariant.count
          (map_from_groups program g at found c.in_ok-groups.ensures) c.in_ok-take.ensures.arguments;
      lists = λ m e.
          let whole = c.loop-argument.invariant.lists (suc m) (omega arith) in
          ap (λ done. done ++ map (groups program g) (range_with_len (at + 1) m))
          (c.in_ok-take.ensures.lists ∙ ap (λ fs. c.loop-argument.maps.lists ++ fs ∷ []) c.in_ok-groups.ensures.firsts)
          ∙ append_assoc c.loop-argument.maps.lists (groups program g at ∷ []) (map (groups program g) (range_with_len (at + 1) m)) ∙ whole;
    }

pub returns-clause-lists : goal.returns-clause-lists
returns-clause-lists c = sym (append-nil c.loop-argument.maps.lists) ∙ c.loop-argument.invariant.lists 0 (omega arith)
