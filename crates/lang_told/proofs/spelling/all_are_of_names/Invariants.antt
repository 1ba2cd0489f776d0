-- All bytes so far are of names.
use Rattle.std.proofs.Common.{◌≡◌, drop}
use Rattle.std.specs.List.{list_all}
use Rattle.lang_told.specs.Spelled.{is_name_byte}
use Rattle.lang_told.proofs.spelling.all_are_of_names.Given as goal

abbrev pub invariant-loop-byte : goal.invariant-loop-byte
invariant-loop-byte l = list_all is_name_byte (drop l.byte-index l.name) ≡ list_all is_name_byte l.name
