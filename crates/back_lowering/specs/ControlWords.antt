-- The words that lowered code has for itself: control words at fixed addresses behind the fixed words, and the words of control
-- records, of handlers and of bindings.
use Rattle.std.specs.Prelude.{ℕ, ◌+◌, ◌*◌}
use Rattle.mid_arena.specs.FixedWords.{fixed_words}

-- control words

abbrev pub control_address : ℕ
control_address = 4 * fixed_words

-- the innermost control record that stands
abbrev pub current_address : ℕ
current_address = control_address

-- the record of the innermost exit that is valid
abbrev pub link_address : ℕ
link_address = control_address + 4

-- the serial number that was given last
abbrev pub serials_address : ℕ
serials_address = control_address + 8

-- the record to which a transfer goes that is under way, and where its landing goes on: a segment, or a site
abbrev pub target_address : ℕ
target_address = control_address + 12

abbrev pub landing_address : ℕ
landing_address = control_address + 16

-- the innermost handler and the innermost dynamic binding; 0 where there is none
abbrev pub handlers_address : ℕ
handlers_address = control_address + 20

abbrev pub bindings_address : ℕ
bindings_address = control_address + 24

-- the site of the form that may signal a condition; 0 where it has no place
abbrev pub site_address : ℕ
site_address = control_address + 28

-- the record of the end of the program
abbrev pub end_address : ℕ
end_address = control_address + 32

abbrev pub control_words : ℕ
control_words = 9

-- where the words of variables begin
abbrev pub variables_address : ℕ
variables_address = control_address + 4 * control_words

-- control records, by offsets from their first word: the serial number of an exit; what the record is for; the record outside it; the
-- link that was valid where it was laid; a catch tag or a condition; and whether the condition is continuable

abbrev pub record_serial : ℕ
record_serial = 0

abbrev pub record_kind : ℕ
record_kind = 4

abbrev pub record_outer : ℕ
record_outer = 8

abbrev pub record_link : ℕ
record_link = 12

abbrev pub record_tag : ℕ
record_tag = 16

abbrev pub record_mark : ℕ
record_mark = 20

abbrev pub record_words : ℕ
record_words = 6

-- what a record is for: the exit of a block or tagbody, of a catch, a cleanup, the exit of a signal, the end of the program

abbrev pub exit_kind : ℕ
exit_kind = 0

abbrev pub catch_kind : ℕ
catch_kind = 1

abbrev pub cleanup_kind : ℕ
cleanup_kind = 2

abbrev pub signal_kind : ℕ
signal_kind = 3

abbrev pub end_kind : ℕ
end_kind = 4

-- a handler's cell: its function, and the cell of the handler outside it

abbrev pub handler_function : ℕ
handler_function = 0

abbrev pub handler_outer : ℕ
handler_outer = 4

abbrev pub handler_words : ℕ
handler_words = 2

-- a binding's cell: the address of the variable's outermost value, which tells variables apart; the value; and the cell of the binding
-- outside it

abbrev pub binding_variable : ℕ
binding_variable = 0

abbrev pub binding_value : ℕ
binding_value = 4

abbrev pub binding_outer : ℕ
binding_outer = 8

abbrev pub binding_words : ℕ
binding_words = 3

-- chains of methods: a word for each method, eight times its function's number and what it is; where methods run before or after the first
-- primary one, a word in front of them, eight times how many bytes behind it that one's word is; and one more at last that says it is the end

abbrev pub around_method : ℕ
around_method = 0

abbrev pub before_method : ℕ
before_method = 1

abbrev pub after_method : ℕ
after_method = 2

abbrev pub primary_method : ℕ
primary_method = 3

abbrev pub chain_end : ℕ
chain_end = 4

abbrev pub primary_behind : ℕ
primary_behind = 5

-- the words of a generic function: twice how many arguments it requires, and one more where it takes further ones; the symbol of its
-- name; how many arguments are specialised; behind them two words for each of these, the offset of the argument among arguments and the
-- address of a word for each class, with the offset of its group; and behind those a word for each tuple of groups: the address of a
-- chain, or 0

abbrev pub generic_arity : ℕ
generic_arity = 0

abbrev pub generic_name : ℕ
generic_name = 4

abbrev pub generic_specialised : ℕ
generic_specialised = 8

abbrev pub generic_groups : ℕ
generic_groups = 12

-- a function that a form made: its number, and from where on what it captured stands, by offsets from the pointer to it

abbrev pub function_number : ℕ
function_number = 2

abbrev pub function_captured : ℕ
function_captured = 6
