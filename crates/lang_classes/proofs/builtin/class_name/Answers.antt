-- The names of classes are short.
use Rattle.std.proofs.Common.{ap, arith, length}
use Rattle.lang_classes.proofs.BuiltIns.{text_short}
use Rattle.lang_classes.proofs.builtin.class_name.Goals as goal

pub intern-requires : goal.intern-requires
intern-requires c =
    omega (arith, text_short c.args.class c.in-Some.text.now c.in-Some.ensures, ap length c.as_bytes.ensures.value)
