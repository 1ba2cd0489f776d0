-- The datum is a list of at least one symbol.
use Rattle.std.proofs.Common.{◌≡◌, ◌+◌, ◌*◌, ◌≤◌, List, length, ap, ◌∙◌, arith}
use Rattle.base.specs.DataMeasures.{size_of}
use Rattle.lang_meaning.specs.Literals.{lay}
use Rattle.mid_start.specs.Laying.{Lays, Grown}
use Rattle.lang_meaning.specs.Recipes.{laid, initargs_recipe}
use Rattle.mid_start.specs.Making.{IsWord, Makes, IsWithin}
use Rattle.mid_start.proofs.Joins.{makes_as, makes_datum}
use Rattle.mid_start.proofs.NameData.{name_list, list_good, list_size}
use Rattle.mid_start.proofs.Steps.{if_ok_on, on_ok_both, within_grown}
use Rattle.mid_start.proofs.slots.lay_initargs.Goals as goal

-- a list that is not empty has an item
some_initargs : {X : Type 0} (xs : List X) → (length xs ≡ 0 → ⊥) → 1 ≤ length xs
some_initargs xs h = omega arith

pub lay_datum-requires-clause-good : goal.lay_datum-requires-clause-good
lay_datum-requires-clause-good c =
    let list : c.in_ok-list.list ≡ name_list c.args.row.now.initargs = c.in_ok-list.ensures in
    rw list (list_good _ c.args.row.now.initargs (λ e. c.if-len-eq0.false (c.len.ensures ∙ e)) c.requires.fits)

pub lay_datum-requires-clause-room : goal.lay_datum-requires-clause-room
lay_datum-requires-clause-room c =
    let size : size_of c.in_ok-list.list ≡ 1 + length c.args.row.now.initargs = ap size_of c.in_ok-list.ensures ∙ list_size c.args.row.now.initargs in
    let some : 1 ≤ length c.args.row.now.initargs = some_initargs c.args.row.now.initargs (λ e. c.if-len-eq0.false (c.len.ensures ∙ e)) in
    omega (arith, size, some, c.requires.room)

pub returns-clause-within : goal.returns-clause-within
returns-clause-within c =
    let size : size_of c.in_ok-list.list ≡ 1 + length c.args.row.now.initargs = ap size_of c.in_ok-list.ensures ∙ list_size c.args.row.now.initargs in
    let some : 1 ≤ length c.args.row.now.initargs = some_initargs c.args.row.now.initargs (λ e. c.if-len-eq0.false (c.len.ensures ∙ e)) in
    on_ok_both c.lay_datum.result (Grown c.args.words.now c.lay_datum.new.words)
    (length c.lay_datum.new.words.words ≤ length c.args.words.now.words + 70 * size_of c.in_ok-list.list)
    (IsWithin c.args.words.now c.lay_datum.new.words (140 * length c.args.row.now.initargs))
    (λ g h. within_grown c.args.words.now c.lay_datum.new.words (140 * length c.args.row.now.initargs) g (omega (arith, size, h, some))) c.lay_datum.ensures.grown c.lay_datum.ensures.count

pub returns-clause-made : goal.returns-clause-made
returns-clause-made c =
    if_ok_on c.lay_datum.result
    (λ w. Lays c.args.names.now (lay c.args.names.now c.in_ok-list.list) c.args.words.now c.lay_datum.new.words w)
    (λ w. Makes c.args.names.now IsWord (initargs_recipe c.args.names.now c.args.row.now) c.args.words.now c.lay_datum.new.words w)
    (Grown c.args.words.now c.lay_datum.new.words)
    (λ w g p.
    makes_as c.args.names.now IsWord (laid (lay c.args.names.now c.in_ok-list.list)) (initargs_recipe c.args.names.now c.args.row.now)
    c.args.words.now c.lay_datum.new.words w (λ n. ap (λ d. laid (lay c.args.names.now d) n) c.in_ok-list.ensures)
    (makes_datum c.args.names.now c.in_ok-list.list c.args.words.now c.lay_datum.new.words w g p))
    c.lay_datum.ensures.grown c.lay_datum.ensures.lays
