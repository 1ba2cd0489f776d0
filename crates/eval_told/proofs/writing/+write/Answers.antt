-- A part is written, or it is not, as its parts are.
use Rattle.std.proofs.Common.{refl, ap, rules}
use Rattle.std.proofs.lemmas.Result.{IfOk-weaker}
use Rattle.eval_told.specs.declared.parts.Part.TheVariants.{Vector, Cons}
use Rattle.eval_told.specs.Parts.{objects_of, shape_of_part}
use Rattle.eval_told.proofs.Written.{attempted_as, atom_of, atom_written, too_large, no_datum_unwritten, one_taken, vector_written, vector_unwritten}
use Rattle.eval_told.proofs.Written.{none_written, elements_go_on, elements_stop, list_written, list_unwritten, chain_ends, chain_goes_on, chain_stops, chain_dotted, less_of}
use Rattle.eval_told.proofs.writing.+write.Goals as goal

-- ---- chains

pub write_chain-returns-then-not-written : goal.write_chain-returns-then-not-written
write_chain-returns-then-not-written t c =
    chain_stops (objects_of c.args.names.now c.args.store.now) c.args.names.now c.args.part c.in-Cons.car c.in-Cons.cdr c.args.left.now _ _ _ c.in_ok-written-in-Cons.written
    c.in-Cons.is c.in_ok-written-in-Cons.ensures c.if-not-written.true

pub write_chain-write_chain-requires : goal.write_chain-write_chain-requires
write_chain-write_chain-requires t c =
    let less = less_of _ _ c.args.left.now _ _ _ c.in_ok-written-in-Cons.written c.if-not-written.false c.in_ok-written-in-Cons.ensures in search (rules, less)

pub write_chain-returns-in-Nil : goal.write_chain-returns-in-Nil
write_chain-returns-in-Nil t c =
    chain_ends (objects_of c.args.names.now c.args.store.now) c.args.names.now c.args.gap.now c.args.part c.args.left.now c.args.out.now c.in-Nil.is

pub write_chain-returns-else-not-written : goal.write_chain-returns-else-not-written
write_chain-returns-else-not-written t c =
    IfOk-weaker c.write_chain.result _ _
    (λ b h.
    chain_goes_on c.args.store.now c.args.names.now c.args.gap.now c.args.part c.part_of-behind.result c.in-Cons.car c.in-Cons.cdr c.args.left.now _ c.args.out.now _ _ _ _
    c.in_ok-written-in-Cons.written b c.in-Cons.is c.in_ok-append-in-Cons.ensures.ok c.in_ok-written-in-Cons.ensures c.if-not-written.false c.part_of-behind.ensures h)
    c.write_chain.ensures

pub write_chain-returns-in_ok-append-in_default : goal.write_chain-returns-in_ok-append-in_default
write_chain-returns-in_ok-append-in_default t c =
    IfOk-weaker c.write_part.result _ _
    (λ b h.
    chain_dotted (objects_of c.args.names.now c.args.store.now) c.args.names.now c.args.gap.now c.args.part c.args.left.now c.args.out.now _ _ _ b c.in_default.not-Nil
    c.in_default.not-Cons c.in_ok-append-in_default.ensures.ok h)
    c.write_part.ensures

-- ---- elements

pub write_elements-returns-in_default : goal.write_elements-returns-in_default
write_elements-returns-in_default t c =
    none_written (objects_of c.args.names.now c.args.store.now) c.args.names.now c.args.gap.now c.args.elements.now c.args.left.now c.args.out.now c.in_default.ensures.cases

pub write_elements-returns-then-not-written : goal.write_elements-returns-then-not-written
write_elements-returns-then-not-written t c =
    elements_stop (objects_of c.args.names.now c.args.store.now) c.args.names.now c.args.elements.now c.in-Some.first.now c.in-Some.rest.now c.args.left.now _ _ _ c.in_ok-written.written
    c.in-Some.ensures.cases c.in_ok-written.ensures c.if-not-written.true

pub write_elements-write_elements-requires : goal.write_elements-write_elements-requires
write_elements-write_elements-requires t c =
    let less = less_of _ _ c.args.left.now _ _ _ c.in_ok-written.written c.if-not-written.false c.in_ok-written.ensures in search (rules, less)

pub write_elements-returns : goal.write_elements-returns
write_elements-returns t c =
    IfOk-weaker c.write_elements.result _ _
    (λ b h.
    elements_go_on (objects_of c.args.names.now c.args.store.now) c.args.names.now c.args.gap.now c.args.elements.now c.in-Some.first.now c.in-Some.rest.now c.args.left.now _ c.args.out.now _ _ _ _
    c.in_ok-written.written b c.in-Some.ensures.cases c.in_ok-append.ensures.ok c.in_ok-written.ensures c.if-not-written.false h)
    c.write_elements.ensures

-- ---- lists

pub write_list-returns-in_ok-append-2 : goal.write_list-returns-in_ok-append-2
write_list-returns-in_ok-append-2 t c =
    list_written (objects_of c.args.names.now c.args.store.now) _ _ c.args.left.now c.args.out.now _ _ _ _ c.in_ok-written.written c.in_ok-append.ensures.ok c.in_ok-written.ensures
    c.if-written.true c.in_ok-append-2.ensures.ok

pub write_list-returns-else-written : goal.write_list-returns-else-written
write_list-returns-else-written t c =
    list_unwritten (objects_of c.args.names.now c.args.store.now) _ _ c.args.left.now c.args.out.now _ _ _ _ c.in_ok-written.written c.in_ok-written.ensures c.if-written.false

-- ---- parts

pub write_part-returns-then-left-size : goal.write_part-returns-then-left-size
write_part-returns-then-left-size t c =
    too_large (objects_of c.args.names.now c.args.store.now) (shape_of_part c.args.names.now c.args.part) c.args.left.now c.part_size-size.result
    (c.part_size-size.ensures c.args.names.now) c.if-left-size.true

pub write_part-write_vector-requires : goal.write_part-write_vector-requires
write_part-write_vector-requires t c =
    let less =
    one_taken c.args.names.now c.args.part (Vector c.in-Vector.elements) c.args.left.now c.part_size-size.result c.in-Vector.is refl
    (c.part_size-size.ensures c.args.names.now) c.if-left-size.false in
    search (rules, less)

pub write_part-write_list-requires : goal.write_part-write_list-requires
write_part-write_list-requires t c =
    let less =
    one_taken c.args.names.now c.args.part (Cons c.in-Cons.car c.in-Cons.cdr) c.args.left.now c.part_size-size.result c.in-Cons.is refl
    (c.part_size-size.ensures c.args.names.now) c.if-left-size.false in
    search (rules, less)

pub write_part-returns-in-Vector : goal.write_part-returns-in-Vector
write_part-returns-in-Vector t c =
    IfOk-weaker c.write_vector.result _ _
    (λ b h.
    attempted_as (objects_of c.args.names.now c.args.store.now) (shape_of_part c.args.names.now c.args.part) _ c.args.left.now _ c.args.out.now _ _ b
    (ap (shape_of_part c.args.names.now) c.in-Vector.is)
    (one_taken c.args.names.now c.args.part (Vector c.in-Vector.elements) c.args.left.now c.part_size-size.result c.in-Vector.is refl
    (c.part_size-size.ensures c.args.names.now) c.if-left-size.false)
    h)
    c.write_vector.ensures

pub write_part-returns-in-Cons : goal.write_part-returns-in-Cons
write_part-returns-in-Cons t c =
    IfOk-weaker c.write_list.result _ _
    (λ b h.
    attempted_as (objects_of c.args.names.now c.args.store.now) (shape_of_part c.args.names.now c.args.part) _ c.args.left.now _ c.args.out.now _ _ b
    (ap (shape_of_part c.args.names.now) c.in-Cons.is)
    (one_taken c.args.names.now c.args.part (Cons c.in-Cons.car c.in-Cons.cdr) c.args.left.now c.part_size-size.result c.in-Cons.is refl
    (c.part_size-size.ensures c.args.names.now) c.if-left-size.false)
    h)
    c.write_list.ensures

pub write_part-returns-in-NoDatum : goal.write_part-returns-in-NoDatum
write_part-returns-in-NoDatum t c = no_datum_unwritten (objects_of c.args.names.now c.args.store.now) c.args.names.now c.args.part c.args.left.now c.in-NoDatum.is

pub write_part-returns-in_ok-append_atom-in_default : goal.write_part-returns-in_ok-append_atom-in_default
write_part-returns-in_ok-append_atom-in_default t c =
    atom_written (objects_of c.args.names.now c.args.store.now) (shape_of_part c.args.names.now c.args.part) c.args.left.now c.part_size-size.result c.args.out.now _
    (atom_of c.args.names.now c.args.part c.in_default.not-NoDatum c.in_default.not-Vector c.in_default.not-Cons) (c.part_size-size.ensures c.args.names.now) c.if-left-size.false
    (c.in_ok-append_atom-in_default.ensures c.args.names.now)

-- ---- vectors

pub write_vector-returns-in_ok-append-2 : goal.write_vector-returns-in_ok-append-2
write_vector-returns-in_ok-append-2 t c =
    vector_written (objects_of c.args.names.now c.args.store.now) _ c.args.left.now c.args.out.now _ _ _ _ c.in_ok-written.written c.in_ok-append.ensures.ok c.in_ok-written.ensures
    c.if-written.true c.in_ok-append-2.ensures.ok

pub write_vector-returns-else-written : goal.write_vector-returns-else-written
write_vector-returns-else-written t c =
    vector_unwritten (objects_of c.args.names.now c.args.store.now) _ c.args.left.now c.args.out.now _ _ _ _ c.in_ok-written.written c.in_ok-written.ensures c.if-written.false
