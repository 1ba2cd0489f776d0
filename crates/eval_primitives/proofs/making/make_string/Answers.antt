-- It is made, where its length is one.
use Rattle.std.proofs.Common.{◌≡◌, Some, rules, w32}
use Rattle.std.proofs.lemmas.Int.{to_z-of_z}
use mir.Val.{SFits}
use Rattle.lang_meaning.specs.Primitives.{length_of}
use Rattle.eval_primitives.proofs.Placing.{string_done}
use Rattle.eval_primitives.proofs.making.make_string.Goals as goal

pub returns-in-Some-natural : goal.returns-in-Some-natural
returns-in-Some-natural c =
    let fits : SFits w32 c.in-Some.number = search rules in
    let e : length_of c.in-Some.number ≡ Some c.in-Some-natural.count = rw (to_z-of_z w32 c.in-Some.number fits) at c.in-Some-natural.ensures.value in
    string_done c.args.limit c.args.length c.args.character c.in-Some.number c.in-Some-character_of.code c.in-Some-natural.count c.args.store.now c.repeated.new.store c.repeated.result c.in-Some.ensures c.in-Some-character_of.ensures e c.repeated.ensures
