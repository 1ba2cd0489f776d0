-- One argument more.
use Rattle.std.proofs.Common.{◌≡◌, ◌+◌, ◌++◌, ◌∷◌, [], suc, true, false, map, ◌∙◌, sym, ap, arith, append_assoc, append-nil}
use Rattle.std.specs.List.{range_with_len}
use Rattle.lang_meaning.specs.Cells.{groups, is_specialised}
use Rattle.lang_dispatch.specs.OfClasses.{with_classes}
use Rattle.lang_dispatch.proofs.cells.generic_groups.Goals as goal
use Rattle.lang_dispatch.proofs.cells.generic_groups.Goals.{then-groups, else-groups}

pub loop-argument-preserved : goal.loop-argument-preserved
loop-argument-preserved c =
    let group = groups (with_classes c.args.classes.now) c.args.generic.now in
    let test = is_specialised c.args.generic.now in
    let at = c.loop-argument.argument in
    record {
      fits = elim c.if-groups.branch [ then-groups w ↦ omega (arith, w.specialised-is) | else-groups w ↦ omega (arith, w.specialised-is) ];
      lists = λ m e.
          let whole = c.loop-argument.invariant.lists (suc m) (omega arith) in
          ap (λ done. done ++ map group (range_with_len (at + 1) m)) (c.in_ok-push.ensures.ok ∙ ap (λ g. c.loop-argument.lists ++ g ∷ []) c.in_ok-groups.ensures.firsts)
          ∙ append_assoc c.loop-argument.lists (group at ∷ []) (map group (range_with_len (at + 1) m)) ∙ whole;
      specialised = λ m e.
          let whole = c.loop-argument.invariant.specialised (suc m) (omega arith) in
          elim c.if-groups.branch [
            | then-groups w ↦
                let yes : test at ≡ true = sym c.in_ok-groups.ensures.specialised ∙ w.if-groups.true in
                let counted = rw yes at whole in
                omega (arith, counted, w.specialised-is)
            | else-groups w ↦
                let no : test at ≡ false = sym c.in_ok-groups.ensures.specialised ∙ w.if-groups.false in
                let counted = rw no at whole in
                omega (arith, counted, w.specialised-is)
          ];
    }

pub returns-clause-lists : goal.returns-clause-lists
returns-clause-lists c =
    sym (append-nil c.loop-argument.lists) ∙ c.loop-argument.invariant.lists 0 (omega arith)

pub returns-clause-specialised : goal.returns-clause-specialised
returns-clause-specialised c =
    let whole = c.loop-argument.invariant.specialised 0 (omega arith) in
    omega (arith, whole)
