-- The datum is a symbol, which makes no object.
use Rattle.std.proofs.Common.{◌≡◌, ◌+◌, ◌*◌, ◌≤◌, length, ap, ◌∙◌, arith}
use Rattle.base.specs.DataMeasures.{size_of}
use Rattle.lang_meaning.specs.Literals.{lay}
use Rattle.mid_start.specs.Laying.{Lays, Grown}
use Rattle.lang_meaning.specs.Recipes.{laid}
use Rattle.mid_start.specs.Recipes.{name_recipe}
use Rattle.mid_start.specs.Making.{IsWord, Makes, IsWithin}
use Rattle.mid_start.proofs.Joins.{makes_as, makes_datum}
use Rattle.mid_start.proofs.NameData.{symbol_good, symbol_size}
use Rattle.mid_start.proofs.Steps.{if_ok_on, on_ok_both, within_grown}
use Rattle.mid_start.proofs.names.lay_name.Goals as goal

pub lay_datum-requires-clause-good : goal.lay_datum-requires-clause-good
lay_datum-requires-clause-good c = rw c.symbol_of_name-symbol.ensures (symbol_good _ c.args.name c.requires.named)

pub lay_datum-requires-clause-room : goal.lay_datum-requires-clause-room
lay_datum-requires-clause-room c =
    let size : size_of c.symbol_of_name-symbol.result ≡ 1 = ap size_of c.symbol_of_name-symbol.ensures ∙ symbol_size c.args.name in
    omega (arith, size, c.requires.room)

pub returns-clause-within : goal.returns-clause-within
returns-clause-within c =
    let size : size_of c.symbol_of_name-symbol.result ≡ 1 = ap size_of c.symbol_of_name-symbol.ensures ∙ symbol_size c.args.name in
    on_ok_both c.lay_datum.result (Grown c.args.words.now c.lay_datum.new.words)
    (length c.lay_datum.new.words.words ≤ length c.args.words.now.words + 70 * size_of c.symbol_of_name-symbol.result)
    (IsWithin c.args.words.now c.lay_datum.new.words 70)
    (λ g h. within_grown c.args.words.now c.lay_datum.new.words 70 g (omega (arith, size, h))) c.lay_datum.ensures.grown c.lay_datum.ensures.count

pub returns-clause-made : goal.returns-clause-made
returns-clause-made c =
    if_ok_on c.lay_datum.result
    (λ w. Lays c.args.names.now (lay c.args.names.now c.symbol_of_name-symbol.result) c.args.words.now c.lay_datum.new.words w)
    (λ w. Makes c.args.names.now IsWord (name_recipe c.args.names.now c.args.name) c.args.words.now c.lay_datum.new.words w)
    (Grown c.args.words.now c.lay_datum.new.words)
    (λ w g p.
    makes_as c.args.names.now IsWord (laid (lay c.args.names.now c.symbol_of_name-symbol.result)) (name_recipe c.args.names.now c.args.name)
    c.args.words.now c.lay_datum.new.words w (λ n. ap (λ d. laid (lay c.args.names.now d) n) c.symbol_of_name-symbol.ensures)
    (makes_datum c.args.names.now c.symbol_of_name-symbol.result c.args.words.now c.lay_datum.new.words w g p))
    c.lay_datum.ensures.grown c.lay_datum.ensures.lays
