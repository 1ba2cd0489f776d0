-- What the tests of all rows tell together.
use Rattle.std.proofs.Common.{◌&&◌, Bool, ap, sym, ◌∙◌}
use Rattle.back_build.proofs.Named.{rows_told}
use Rattle.back_build.proofs.names_there.are_names_there.Goals as goal

pub returns-then-classes : goal.returns-then-classes
returns-then-classes c =
    let none = c.has_no_nil-has_none.result in
    let classes = c.are_classes_named-classes.result in
    let literals = c.in_ok-literals.literals in
    rows_told c.args.names.now c.args.true_name c.args.rows.now c.len-count.result none classes literals literals c.requires c.len-count.ensures.len
    c.has_no_nil-has_none.ensures.none c.has_no_nil-has_none.ensures.one c.are_classes_named-classes.ensures c.in_ok-literals.ensures
    (sym (ap (λ (b : Bool). b && (classes && literals)) c.if-has_none.true ∙ ap (λ (b : Bool). b && literals) c.if-classes.true))

pub returns-else-classes : goal.returns-else-classes
returns-else-classes c =
    let none = c.has_no_nil-has_none.result in
    let classes = c.are_classes_named-classes.result in
    let literals = c.in_ok-literals.literals in
    rows_told c.args.names.now c.args.true_name c.args.rows.now c.len-count.result none classes literals classes c.requires c.len-count.ensures.len
    c.has_no_nil-has_none.ensures.none c.has_no_nil-has_none.ensures.one c.are_classes_named-classes.ensures c.in_ok-literals.ensures
    (c.if-classes.false ∙ sym (ap (λ (b : Bool). b && (classes && literals)) c.if-has_none.true ∙ ap (λ (b : Bool). b && literals) c.if-classes.false))
