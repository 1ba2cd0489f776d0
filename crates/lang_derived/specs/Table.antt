-- The table of derived forms: for each name the parts that may stand behind it, and what the form becomes. The standard
-- describes these forms (ISO/IEC 13816:2007, 12.7, 13.4, 14, 16, 17 and 29.2); that they stand for just these others is this
-- profile's choice. In the comments #:x is a new symbol; a left side and a right side name a part by its number, from 0.
use Rattle.std.specs.Prelude.{ℕ, Bool, true, false, List, [], ◌∷◌, ◌++◌, if◌then◌else◌, codes}
use Rattle.std.specs.Str.{bytes_eq}
use Rattle.lang_derived.specs.Patterns.{Pattern, a_datum, a_symbol, the_word, an_operator, inside, others, one_at_most, each_fits, Patterns, patterns}
use Rattle.lang_derived.specs.RightSides.{Template, datum, all_of, the_setter, the_quotation, the_symbol, new_symbol, new_behind, own_symbol, for_each, Templates, templates, grouped, written}

-- a row: a form of that name, whose parts fit, becomes the right side, with these new symbols in the order of their serials
pub record Row : Type 0 where
  pub name : List ℕ
  pub parts : Patterns
  pub right : Templates
  pub new : Templates

abbrev pub row : List ℕ → List Pattern → Template → List Template → Row
row name parts right new = record { name = name; parts = patterns parts; right = templates (right ∷ []); new = templates new }

-- t and nil as a step writes them
abbrev pub true_symbol : Template
true_symbol = the_symbol (codes "t")

abbrev pub nil_list : Template
nil_list = grouped []

-- for each datum of the variable i that fits, this
abbrev pub each_as : ℕ → Patterns → Template → Template
each_as i ps x = for_each i ps (templates (x ∷ []))

-- a datum that is a list of such data
abbrev pub a_list_of : List Pattern → Patterns
a_list_of ps = patterns (inside (patterns ps) ∷ [])

-- a list of such data, as a part of a form
abbrev pub the_list_of : List Pattern → Pattern
the_list_of ps = inside (patterns ps)

-- (#:n x)
abbrev pub bound : ℕ → ℕ → Template
bound n i = grouped (new_symbol n ∷ datum i ∷ [])

-- (progn f*)
abbrev pub body : ℕ → Template
body i = written (codes "progn") (all_of i ∷ [])

-- (class c)
abbrev pub class_of : ℕ → Template
class_of i = written (codes "class") (datum i ∷ [])

-- `if`, `and` and `or`
unfoldable pub conditional_rows : List Row
conditional_rows =
    -- (if a b) → (cond (a b))
    row (codes "if") (a_datum ∷ a_datum ∷ [])
    (written (codes "cond") (grouped (datum 0 ∷ datum 1 ∷ []) ∷ []))
    []
    -- (if a b c) → (cond (a b) (t c))
    ∷ row (codes "if") (a_datum ∷ a_datum ∷ a_datum ∷ [])
    (written (codes "cond") (grouped (datum 0 ∷ datum 1 ∷ []) ∷ grouped (true_symbol ∷ datum 2 ∷ []) ∷ []))
    []
    -- (and) → t
    ∷ row (codes "and") [] true_symbol []
    -- (and a) → a
    ∷ row (codes "and") (a_datum ∷ []) (datum 0) []
    -- (and a b*) → (cond (a (and b*)))
    ∷ row (codes "and") (a_datum ∷ others ∷ [])
    (written (codes "cond") (grouped (datum 0 ∷ written (codes "and") (all_of 1 ∷ []) ∷ []) ∷ []))
    []
    -- (or) → nil
    ∷ row (codes "or") [] nil_list []
    -- (or a) → a
    ∷ row (codes "or") (a_datum ∷ []) (datum 0) []
    -- (or a b*) → (cond (a) (t (or b*)))
    ∷ row (codes "or") (a_datum ∷ others ∷ [])
    (written (codes "cond") (grouped (datum 0 ∷ []) ∷ grouped (true_symbol ∷ written (codes "or") (all_of 1 ∷ []) ∷ []) ∷ []))
    []
    ∷ []

-- `let*`
unfoldable pub binding_rows : List Row
binding_rows =
    -- (let* () f*) → (let () f*)
    row (codes "let*") (the_list_of [] ∷ others ∷ [])
    (written (codes "let") (nil_list ∷ all_of 0 ∷ []))
    []
    -- (let* (b c*) f*) → (let (b) (let* (c*) f*))
    ∷ row (codes "let*") (the_list_of (a_datum ∷ others ∷ []) ∷ others ∷ [])
    (written (codes "let") (grouped (all_of 0 ∷ []) ∷ written (codes "let*") (grouped (all_of 1 ∷ []) ∷ all_of 2 ∷ []) ∷ []))
    []
    ∷ []

-- ((x*) f*)
abbrev pub a_clause : Patterns
a_clause = a_list_of (the_list_of (others ∷ []) ∷ others ∷ [])

-- (t f*)
abbrev pub an_else_clause : Pattern
an_else_clause = the_list_of (the_word (codes "t") ∷ others ∷ [])

-- for clauses ((x*) f*)*, behind the parts of a test: ((test .. (quote (x*))) (progn f*))*
abbrev pub tested : ℕ → List Template → Template
tested i test = each_as i a_clause (grouped (grouped (test ++ written (codes "quote") (grouped (all_of 0 ∷ []) ∷ []) ∷ []) ∷ body 1 ∷ []))

-- (t (progn f*))
abbrev pub otherwise : ℕ → Template
otherwise i = grouped (true_symbol ∷ body i ∷ [])

-- %memv #:k
abbrev pub is_member : List Template
is_member = the_symbol (codes "%memv") ∷ new_symbol 0 ∷ []

-- %memp #:p #:k
abbrev pub satisfies : List Template
satisfies = the_symbol (codes "%memp") ∷ new_symbol 0 ∷ new_symbol 1 ∷ []

-- `case`
unfoldable pub case_rows : List Row
case_rows =
    -- (case k ((x*) f*)* (t f*))
    --     → (let ((#:k k)) (cond ((%memv #:k (quote (x*))) (progn f*))* (t (progn f*))))
    row (codes "case") (a_datum ∷ each_fits a_clause ∷ an_else_clause ∷ [])
    (written (codes "let") (grouped (bound 0 0 ∷ []) ∷ written (codes "cond") (tested 1 is_member ∷ otherwise 2 ∷ []) ∷ []))
    (new_symbol 0 ∷ [])
    -- (case k ((x*) f*)*) → (let ((#:k k)) (cond ((%memv #:k (quote (x*))) (progn f*))*))
    ∷ row (codes "case") (a_datum ∷ each_fits a_clause ∷ [])
    (written (codes "let") (grouped (bound 0 0 ∷ []) ∷ written (codes "cond") (tested 1 is_member ∷ []) ∷ []))
    (new_symbol 0 ∷ [])
    ∷ []

-- `case-using`
unfoldable pub case_using_rows : List Row
case_using_rows =
    -- (case-using p k ((x*) f*)* (t f*))
    --     → (let ((#:p p) (#:k k)) (cond ((%memp #:p #:k (quote (x*))) (progn f*))* (t (progn f*))))
    row (codes "case-using") (a_datum ∷ a_datum ∷ each_fits a_clause ∷ an_else_clause ∷ [])
    (written (codes "let") (grouped (bound 0 0 ∷ bound 1 1 ∷ []) ∷ written (codes "cond") (tested 2 satisfies ∷ otherwise 3 ∷ []) ∷ []))
    (new_symbol 0 ∷ new_symbol 1 ∷ [])
    -- (case-using p k ((x*) f*)*)
    --     → (let ((#:p p) (#:k k)) (cond ((%memp #:p #:k (quote (x*))) (progn f*))*))
    ∷ row (codes "case-using") (a_datum ∷ a_datum ∷ each_fits a_clause ∷ [])
    (written (codes "let") (grouped (bound 0 0 ∷ bound 1 1 ∷ []) ∷ written (codes "cond") (tested 2 satisfies ∷ []) ∷ []))
    (new_symbol 0 ∷ new_symbol 1 ∷ [])
    ∷ []

-- (v i [s])
abbrev pub a_variable : Patterns
a_variable = a_list_of (a_datum ∷ a_datum ∷ one_at_most ∷ [])

-- (v i s)
abbrev pub a_stepped : Patterns
a_stepped = a_list_of (a_datum ∷ a_datum ∷ a_datum ∷ [])

-- (cond (e nil) (t t))
abbrev pub goes_on : Template
goes_on = written (codes "cond") (grouped (datum 1 ∷ nil_list ∷ []) ∷ grouped (true_symbol ∷ true_symbol ∷ []) ∷ [])

-- (let ((#:n s)*) (setq v #:n)*)
abbrev pub all_next : Template
all_next =
    written (codes "let")
    (grouped (each_as 0 a_stepped (grouped (own_symbol ∷ datum 2 ∷ [])) ∷ [])
    ∷ each_as 0 a_stepped (written (codes "setq") (datum 0 ∷ own_symbol ∷ []))
    ∷ [])

-- `for`
unfoldable pub loop_rows : List Row
loop_rows =
    -- (for ((v i [s])*) (e r*) f*)
    --     → (let ((v i)*) (while (cond (e nil) (t t)) f* (let ((#:n s)*) (setq v #:n)*)) (progn r*)),
    --     with a new symbol for each variable that has a step s
    row (codes "for") (the_list_of (each_fits a_variable ∷ []) ∷ the_list_of (a_datum ∷ others ∷ []) ∷ others ∷ [])
    (written (codes "let")
    (grouped (each_as 0 a_variable (grouped (datum 0 ∷ datum 1 ∷ [])) ∷ [])
    ∷ written (codes "while") (goes_on ∷ all_of 3 ∷ all_next ∷ [])
    ∷ body 2
    ∷ []))
    (each_as 0 a_stepped own_symbol ∷ [])
    ∷ []

-- a
abbrev pub an_argument : Patterns
an_argument = patterns (a_datum ∷ [])

-- `setf`
unfoldable pub place_rows : List Row
place_rows =
    -- (setf x v) → (setq x v) for a symbol x
    row (codes "setf") (a_symbol ∷ a_datum ∷ [])
    (written (codes "setq") (datum 0 ∷ datum 1 ∷ []))
    []
    -- (setf (dynamic x) v) → (set-dynamic v x)
    ∷ row (codes "setf") (the_list_of (the_word (codes "dynamic") ∷ a_datum ∷ []) ∷ a_datum ∷ [])
    (written (codes "set-dynamic") (datum 1 ∷ datum 0 ∷ []))
    []
    -- (setf (op a*) v) → (let ((#:a a)* (#:v v)) (w #:v #:a*)), where w sets the place of op
    ∷ row (codes "setf") (the_list_of (an_operator ∷ others ∷ []) ∷ a_datum ∷ [])
    (written (codes "let")
    (grouped (each_as 1 an_argument (grouped (own_symbol ∷ datum 0 ∷ [])) ∷ grouped (new_behind 1 ∷ datum 2 ∷ []) ∷ [])
    ∷ grouped (the_setter 0 ∷ new_behind 1 ∷ each_as 1 an_argument own_symbol ∷ [])
    ∷ []))
    (each_as 1 an_argument own_symbol ∷ new_behind 1 ∷ [])
    ∷ []

-- (g l f*)
abbrev pub a_function : Patterns
a_function = a_list_of (a_datum ∷ a_datum ∷ others ∷ [])

-- for each function (g l f*), this
abbrev pub each_function : Template → Template
each_function x = each_as 0 a_function x

-- (lambda l f*)
abbrev pub lambda_of : Template
lambda_of = written (codes "lambda") (datum 1 ∷ all_of 2 ∷ [])

-- ((g #:g)*)
abbrev pub functions_named : Template
functions_named = grouped (each_function (grouped (datum 0 ∷ own_symbol ∷ [])) ∷ [])

-- `flet` and `labels`
unfoldable pub function_rows : List Row
function_rows =
    -- (flet ((g l f*)*) h*) → (let ((#:g (lambda l f*))*) (%with-functions ((g #:g)*) h*))
    row (codes "flet") (the_list_of (each_fits a_function ∷ []) ∷ others ∷ [])
    (written (codes "let")
    (grouped (each_function (grouped (own_symbol ∷ lambda_of ∷ [])) ∷ [])
    ∷ written (codes "%with-functions") (functions_named ∷ all_of 1 ∷ [])
    ∷ []))
    (each_function own_symbol ∷ [])
    -- (labels ((g l f*)*) h*)
    --     → (let ((#:g nil)*) (%with-functions ((g #:g)*) (setq #:g (lambda l f*))* h*))
    ∷ row (codes "labels") (the_list_of (each_fits a_function ∷ []) ∷ others ∷ [])
    (written (codes "let")
    (grouped (each_function (grouped (own_symbol ∷ nil_list ∷ [])) ∷ [])
    ∷ written (codes "%with-functions") (functions_named ∷ each_function (written (codes "setq") (own_symbol ∷ lambda_of ∷ [])) ∷ all_of 1 ∷ [])
    ∷ []))
    (each_function own_symbol ∷ [])
    ∷ []

-- ((%instance #:c (class <error>)) (return-from #:b nil))
abbrev pub error_left : Template
error_left =
    grouped
    (written (codes "%instance") (new_symbol 1 ∷ written (codes "class") (the_symbol (codes "<error>") ∷ []) ∷ [])
    ∷ written (codes "return-from") (new_symbol 0 ∷ nil_list ∷ [])
    ∷ [])

-- (signal-condition #:c (condition-continuable #:c))
abbrev pub signalled_again : Template
signalled_again = written (codes "signal-condition") (new_symbol 1 ∷ written (codes "condition-continuable") (new_symbol 1 ∷ []) ∷ [])

-- (t (continue-condition #:c (signal-condition ..)))
abbrev pub others_passed : Template
others_passed = grouped (true_symbol ∷ written (codes "continue-condition") (new_symbol 1 ∷ signalled_again ∷ []) ∷ [])

-- `ignore-errors`
unfoldable pub condition_rows : List Row
condition_rows =
    -- (ignore-errors f*) → (block #:b (with-handler (lambda (#:c) ..) f*)), where .. is
    --     (cond ((%instance #:c (class <error>)) (return-from #:b nil))
    --           (t (continue-condition #:c (signal-condition #:c (condition-continuable #:c)))))
    row (codes "ignore-errors") (others ∷ [])
    (written (codes "block")
    (new_symbol 0
    ∷ written (codes "with-handler")
    (written (codes "lambda") (grouped (new_symbol 1 ∷ []) ∷ written (codes "cond") (error_left ∷ others_passed ∷ []) ∷ []) ∷ all_of 0 ∷ [])
    ∷ []))
    (new_symbol 0 ∷ new_symbol 1 ∷ [])
    ∷ []

-- `assure`, `the` and `convert`
unfoldable pub class_rows : List Row
class_rows =
    -- (assure c x) → (let ((#:v x)) (cond ((%instance #:v (class c)) #:v) (t (%domain-error #:v (class c)))))
    row (codes "assure") (a_datum ∷ a_datum ∷ [])
    (written (codes "let")
    (grouped (bound 0 1 ∷ [])
    ∷ written (codes "cond")
    (grouped (written (codes "%instance") (new_symbol 0 ∷ class_of 0 ∷ []) ∷ new_symbol 0 ∷ [])
    ∷ grouped (true_symbol ∷ written (codes "%domain-error") (new_symbol 0 ∷ class_of 0 ∷ []) ∷ [])
    ∷ [])
    ∷ []))
    (new_symbol 0 ∷ [])
    -- (the c x) → x
    ∷ row (codes "the") (a_datum ∷ a_datum ∷ []) (datum 1) []
    -- (convert x c) → (%convert x (class c))
    ∷ row (codes "convert") (a_datum ∷ a_datum ∷ [])
    (written (codes "%convert") (datum 0 ∷ class_of 1 ∷ []))
    []
    ∷ []

-- `quasiquote`
unfoldable pub quotation_rows : List Row
quotation_rows =
    -- (quasiquote d) → Q(d, 1)
    row (codes "quasiquote") (a_datum ∷ []) (the_quotation 0) []
    ∷ []

-- the table: where a form fits several rows of its name, it becomes what the first of them says
unfoldable pub table : List (List Row)
table =
    conditional_rows
    ∷ binding_rows
    ∷ case_rows
    ∷ case_using_rows
    ∷ loop_rows
    ∷ place_rows
    ∷ function_rows
    ∷ condition_rows
    ∷ class_rows
    ∷ quotation_rows
    ∷ []

-- whether a row has the name
abbrev pub names_a_row : List Row → List ℕ → Bool
names_a_row [] name = false
names_a_row (r ∷ rs) name = if bytes_eq name r.name then true else names_a_row rs name

abbrev pub names_some_row : List (List Row) → List ℕ → Bool
names_some_row [] name = false
names_some_row (rs ∷ gs) name = if names_a_row rs name then true else names_some_row gs name

-- a name of the table
unfoldable pub is_derived : List ℕ → Bool
is_derived name = names_some_row table name
