-- The character is another one, or there is no place for it.
use Rattle.eval_primitives.proofs.Changing.{char_is_set, no_place_set, no_string_set}
use Rattle.eval_primitives.proofs.setting.set_char_at.Goals as goal

pub returns-in-Ok : goal.returns-in-Ok
returns-in-Ok c = char_is_set c.args.store.now c.set_byte.new.self c.args.value c.args.word c.args.place c.in-Some.code c.len.result c.in-Ok.at c.in-Some-string_of.bytes.now c.in-Some.ensures c.in-Some-string_of.ensures c.len.ensures c.in-Ok.ensures c.set_byte.ensures.set

pub returns-in-Err : goal.returns-in-Err
returns-in-Err c = no_place_set c.args.store.now c.args.value c.args.word c.args.place c.in-Some.code c.len.result c.in-Some-string_of.bytes.now c.in-Err.answer c.in-Some.ensures c.in-Some-string_of.ensures c.len.ensures c.in-Err.ensures

pub returns-in-None : goal.returns-in-None
returns-in-None c = no_string_set c.args.store.now c.args.value c.args.word c.args.place c.in-Some.code c.in-Some.ensures c.in-None.ensures
