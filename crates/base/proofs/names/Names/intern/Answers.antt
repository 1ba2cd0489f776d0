-- A text with a number stands in the table, and one without does not.
use Rattle.std.proofs.Common.{sym, Result, Ok, Err, OnOk, OnErr}
use Rattle.base.specs.Names.{IsTable, IsTable-with_text}
use Rattle.base.specs.NameNumbers.{table_of, found_there, not_there}
use Rattle.base.proofs.names.Names.intern.Goals as goal

-- what follows from both answers
either_way : {T E A B C : Type 0} (r : Result T E) → OnOk r A → OnErr r B → (A → C) → (B → C) → C
either_way (Ok x) a b f g = f a
either_way (Err e) a b f g = g b

pub add-requires-clause-new : goal.add-requires-clause-new
add-requires-clause-new c =
    rw (← c.self.view_is) (not_there _ _ c.args.text.now c.self.invariant (sym c.in-None.ensures.value))

pub returns-in-Some-clause-name : goal.returns-in-Some-clause-name
returns-in-Some-clause-name c =
    rw (← c.self.view_is) (c.self.invariant.found c.args.text.now c.in-Some.number.now (sym c.in-Some.ensures.value))

pub returns-in-Some-clause-after : goal.returns-in-Some-clause-after
returns-in-Some-clause-after c =
    rw (← c.self.view_is) (sym (found_there _ _ c.args.text.now c.in-Some.number.now c.self.invariant (sym c.in-Some.ensures.value)))

pub returns-in-Some-clause-table : goal.returns-in-Some-clause-table
returns-in-Some-clause-table c = rw (← c.self.view_is) (table_of _ _ c.self.invariant)

pub returns-in-None-clause-table : goal.returns-in-None-clause-table
returns-in-None-clause-table c =
    let was : IsTable c.args.self.now = rw (← c.self.view_is) (table_of _ _ c.self.invariant) in
    either_way c.add.result c.add.ensures.after c.add.ensures.err
    (λ e. rw e (IsTable-with_text c.args.self.now c.args.text.now was c.requires))
    (λ e. rw e was)
