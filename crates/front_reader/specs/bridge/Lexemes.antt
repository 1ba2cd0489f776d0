-- The bridge Between the grammar and the code: what comes next in a text, as functions. The grammar knows
-- nothing of this file; proofs/ shows that both say the same.
use Rattle.std.specs.Prelude.{ℕ, zero, suc, ◌+◌, ◌-◌, Bool, true, false, ◌&&◌, ◌==◌, nat_lt, List, [], ◌∷◌, length, take, drop, map, Option, Some, None, if◌then◌else◌, codes}
use Rattle.std.specs.Str.{bytes_eq}
use Rattle.base.specs.declared.reason.Reason.TheVariants.{BadByte, UnclosedString, BadSharp, FloatLiteral, IntegerTooWide, NameTooLong}
use Rattle.front_reader.specs.declared.opening.Opening.TheVariants.{List as ListOpening, Vector as VectorOpening, Before}
use Rattle.front_reader.specs.declared.opening.Prefix.TheVariants.{Quote, Quasiquote, Unquote, UnquoteSplicing, Function}
use Rattle.front_reader.specs.declared.lexeme.Lexeme.{Lexeme}
use Rattle.front_reader.specs.declared.lexeme.Lexeme.TheVariants.{Close, Dot, Open, Integer, Character, Token, Bar, Text}
use Rattle.front_reader.specs.declared.lexeme.Lexed.{Lexed}
use Rattle.front_reader.specs.declared.lexeme.Lexed.TheVariants.{Taken, Fault}
use Rattle.front_reader.specs.declared.gap.Mode.{Mode}
use Rattle.front_reader.specs.declared.gap.Mode.TheVariants.{Between, InLine, InBlock, Opens, Closes}
use Rattle.front_reader.specs.declared.gap.Skipped.{Skipped}
use Rattle.front_reader.specs.declared.gap.Skipped.TheVariants.{Ends, OpenFrom}
use Rattle.front_reader.specs.declared.quoted.Quoted.{Quoted}
use Rattle.front_reader.specs.declared.quoted.Quoted.TheVariants.{Closed, Unclosed, Bad}
use Rattle.front_reader.specs.Characters.{is_blank, is_token, folded, begins}
use Rattle.front_reader.specs.Tokens.{is_integer, integer_value, is_wide, is_float, is_dot}
use Rattle.front_reader.specs.Atoms.{Atom, an_integer, a_character, a_symbol, a_string, may_stand}

-- behind the end of a block comment with n around it
abbrev pub mode_after_close : ℕ → Mode
mode_after_close zero = Between
mode_after_close (suc n) = InBlock n

-- the gap that a text begins with; i bytes of it are taken, and the outermost comment opened at o
unfoldable pub skip : Mode → ℕ → ℕ → List ℕ → Skipped
skip Between i o [] = Ends i
skip InLine i o [] = Ends i
skip (InBlock n) i o [] = OpenFrom o
skip (Opens n) i o [] = OpenFrom o
skip (Closes n) i o [] = OpenFrom o
skip Between i o (b ∷ bs) =
    if is_blank b then skip Between (i + 1) o bs
    else if b == 59 then skip InLine (i + 1) o bs
    else if b == 35 && begins (λ c. c == 124) bs then skip (Opens 0) (i + 1) i bs
    else Ends i
skip InLine i o (b ∷ bs) =
    if b == 10 then skip Between (i + 1) o bs else skip InLine (i + 1) o bs
skip (InBlock n) i o (b ∷ bs) =
    if b == 35 && begins (λ c. c == 124) bs then skip (Opens (suc n)) (i + 1) o bs
    else if b == 124 && begins (λ c. c == 35) bs then skip (Closes n) (i + 1) o bs
    else skip (InBlock n) (i + 1) o bs
skip (Opens n) i o (b ∷ bs) = skip (InBlock n) (i + 1) o bs
skip (Closes n) i o (b ∷ bs) = skip (mode_after_close n) (i + 1) o bs

-- how many token characters a text begins with
unfoldable pub token_run : List ℕ → ℕ
token_run [] = 0
token_run (b ∷ bs) = if is_token b then token_run bs + 1 else 0

-- an integer's spelling of n bytes
abbrev pub integer_lexed : ℕ → ℕ → List ℕ → Lexed
integer_lexed base n w =
    if is_wide base w then Fault 0 IntegerTooWide else Taken n (Integer (integer_value base w))

unfoldable pub token_lexed : List ℕ → Lexed
token_lexed w =
    if is_integer 10 w then integer_lexed 10 (length w) w
    else if is_float w then Fault 0 FloatLiteral
    else if is_dot w then Taken (length w) Dot
    else if nat_lt 256 (length w) then Fault 0 NameTooLong
    else Taken (length w) Token

-- how the bytes behind a quote go on: i bytes are taken; with `true` a `\` was the last of them
unfoldable pub quoted_from : ℕ → Bool → ℕ → List ℕ → Quoted
quoted_from quote e i [] = Unclosed
quoted_from quote true i (b ∷ bs) =
    if may_stand quote b then quoted_from quote false (i + 1) bs else Bad i
quoted_from quote false i (b ∷ bs) =
    if b == quote then Closed i
    else if b == 92 then quoted_from quote true (i + 1) bs
    else if may_stand quote b then quoted_from quote false (i + 1) bs
    else Bad i

-- the content between quotes; with `true` a `\` stood before
unfoldable pub unescaped : Bool → List ℕ → List ℕ
unescaped e [] = []
unescaped true (b ∷ bs) = b ∷ unescaped false bs
unescaped false (b ∷ bs) = if b == 92 then unescaped true bs else b ∷ unescaped false bs

-- behind `"`
abbrev pub text_lexed : Quoted → Lexed
text_lexed (Closed n) = Taken (n + 2) Text
text_lexed Unclosed = Fault 0 UnclosedString
text_lexed (Bad n) = Fault (n + 1) BadByte

-- behind `|`
abbrev pub bar_lexed : Quoted → List ℕ → Lexed
bar_lexed (Closed n) bs =
    if nat_lt 256 (length (unescaped false (take n bs))) then Fault 0 NameTooLong else Taken (n + 2) Bar
bar_lexed Unclosed bs = Fault 0 UnclosedString
bar_lexed (Bad n) bs = Fault (n + 1) BadByte

-- the base of a letter, or 0, which has no digits
abbrev pub base_of : ℕ → ℕ
base_of c = if c == 98 then 2 else if c == 111 then 8 else if c == 120 then 16 else 0

-- behind `#` and the letter of a base
abbrev pub based_lexed : ℕ → List ℕ → Lexed
based_lexed base w = if is_integer base w then integer_lexed base (length w + 2) w else Fault 0 BadSharp

-- behind `#\`: the name of a character
abbrev pub name_lexed : List ℕ → Lexed
name_lexed w =
    if bytes_eq (map folded w) (codes "space") then Taken (length w + 2) (Character 32)
    else if bytes_eq (map folded w) (codes "newline") then Taken (length w + 2) (Character 10)
    else Fault 0 BadSharp

-- behind `#\`
abbrev pub character_lexed : List ℕ → Lexed
character_lexed [] = Fault 0 BadSharp
character_lexed (c ∷ cs) =
    if nat_lt 1 (token_run (c ∷ cs)) then name_lexed (take (token_run (c ∷ cs)) (c ∷ cs)) else Taken 3 (Character c)

-- behind `#`
unfoldable pub sharp_lexed : List ℕ → Lexed
sharp_lexed [] = Fault 0 BadSharp
sharp_lexed (c ∷ cs) =
    if c == 40 then Taken 2 (Open VectorOpening)
    else if c == 39 then Taken 2 (Open (Before Function))
    else if c == 92 then character_lexed cs
    else based_lexed (base_of c) (take (token_run cs) cs)

-- behind `,`
abbrev pub comma_lexed : List ℕ → Lexed
comma_lexed bs =
    if begins (λ c. c == 64) bs then Taken 2 (Open (Before UnquoteSplicing)) else Taken 1 (Open (Before Unquote))

-- what begins with a byte that is no token character
unfoldable pub mark_lexed : ℕ → List ℕ → Lexed
mark_lexed b bs =
    if b == 40 then Taken 1 (Open ListOpening)
    else if b == 41 then Taken 1 Close
    else if b == 39 then Taken 1 (Open (Before Quote))
    else if b == 96 then Taken 1 (Open (Before Quasiquote))
    else if b == 44 then comma_lexed bs
    else if b == 34 then text_lexed (quoted_from 34 false 0 bs)
    else if b == 124 then bar_lexed (quoted_from 124 false 0 bs) bs
    else if b == 35 then sharp_lexed bs
    else Fault 0 BadByte

-- what a text begins with that has a first byte and no gap before it; the first line is never used
unfoldable pub lex : List ℕ → Lexed
lex [] = Fault 0 BadByte
lex (b ∷ bs) = if is_token b then token_lexed (take (token_run (b ∷ bs)) (b ∷ bs)) else mark_lexed b bs

-- the bytes between two quotes
abbrev pub between_quotes : List ℕ → List ℕ
between_quotes w = unescaped false (take (length w - 2) (drop 1 w))

-- what a lexeme of these bytes spells, where it spells an atom
abbrev pub atom_of : Lexeme → List ℕ → Option Atom
atom_of Close w = None
atom_of Dot w = None
atom_of (Open o) w = None
atom_of (Integer n) w = Some (an_integer n)
atom_of (Character c) w = Some (a_character c)
atom_of Token w = Some (a_symbol (map folded w))
atom_of Bar w = Some (a_symbol (between_quotes w))
atom_of Text w = Some (a_string (between_quotes w))
