-- Files that are refused.
use Rattle.std.specs.Prelude.{ℕ, List, [], ◌++◌, codes}
use Rattle.base.specs.declared.reason.Reason.TheVariants.{UnknownBlock, ReservedName}
use Rattle.front_files.specs.declared.mode.Mode.TheVariants.{Run}
use Rattle.front_files.specs.Verdicts.{Refuses}
use Rattle.lang_worked.specs.FileParts.{at}
use Rattle.lang_worked.specs.FileLibrary.{library_text}

-- (defun f (x) x)
-- (f (return-from b 5))
abbrev pub no_block_text : List ℕ
no_block_text = codes "(defun f (x) x)\n" ++ codes "(f (return-from b 5))"

-- its first form is taken; in the second no block b is around
abbrev pub FileIsRefused : Type 0
FileIsRefused = Refuses [] no_block_text Run (record { place = at 2 4; reason = UnknownBlock })

-- (defun h (x) x)
abbrev pub library_name_text : List ℕ
library_name_text = codes "(defun h (x) x)"

-- the library has a function of that name
abbrev pub FileIsRefusedBehindLibrary : Type 0
FileIsRefusedBehindLibrary = Refuses library_text library_name_text Run (record { place = at 1 1; reason = ReservedName })
