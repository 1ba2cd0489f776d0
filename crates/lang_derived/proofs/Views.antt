-- Patterns and templates inside others, as the code has them and as the table does.
use Rattle.std.specs.Prelude.{◌≡◌, ℕ, ◌+◌, ◌<◌, List, [], ◌∷◌, length, map, refl}
use Rattle.std.specs.Borrow.{Bor}
use Rattle.std.proofs.Common.{arith, ap, ◌∙◌, rules}
use Rattle.base.specs.Data.{Item}
use Rattle.lang_derived.specs.Pieces.{listed}
use Rattle.lang_derived.specs.Patterns.{Parts, a_datum, a_symbol, the_word, an_operator, inside, others, one_at_most, each_fits, patterns, pattern_and, pattern_count, pattern_size, patterns_size, part_if, all_data, is_some, of_one, fit, fit_all}
use Rattle.lang_derived.specs.model.PatternView.{view_pattern, view_patterns}
use Rattle.lang_derived.specs.RightSides.{datum, all_of, the_setter, the_quotation, the_symbol, new_symbol, new_behind, own_symbol, group, for_each, templates, template_and, template_size, templates_size, part_of, repeated, write, write_all}
use Rattle.lang_derived.specs.model.TemplateView.{view_template, view_templates}
use Rattle.lang_derived.specs.declared.pattern.Pattern.{Pattern, Datum, Symbol, Name, Operator, Others, OneAtMost, Inside, Each, the_lemmas as pattern_lemmas}
use Rattle.lang_derived.specs.declared.template.Template.{Template, One, All, Setter, Quotation, Word, New, NewBehind, Own, Group, ForEach, the_lemmas as template_lemmas}

-- patterns

patterns_listed : (xs : List Pattern) → patterns (map view_pattern xs) ≡ view_patterns xs
patterns_listed [] = refl
patterns_listed (x ∷ xs) = ap (pattern_and (view_pattern x)) (patterns_listed xs)

inside_level : (r : Bor (List Pattern)) → view_pattern (Inside r) ≡ inside (patterns (map view_pattern r.now))
inside_level r = search (rules, pattern_lemmas)

each_level : (r : Bor (List Pattern)) → view_pattern (Each r) ≡ each_fits (patterns (map view_pattern r.now))
each_level r = search (rules, pattern_lemmas)

pub inside_viewed : (r : Bor (List Pattern)) → view_pattern (Inside r) ≡ inside (view_patterns r.now)
inside_viewed r = inside_level r ∙ ap inside (patterns_listed r.now)

pub each_viewed : (r : Bor (List Pattern)) → view_pattern (Each r) ≡ each_fits (view_patterns r.now)
each_viewed r = each_level r ∙ ap each_fits (patterns_listed r.now)

pub datum_viewed : view_pattern Datum ≡ a_datum
datum_viewed = search (rules, pattern_lemmas)

pub symbol_viewed : view_pattern Symbol ≡ a_symbol
symbol_viewed = search (rules, pattern_lemmas)

pub name_viewed : (text : Bor (List ℕ)) → view_pattern (Name text) ≡ the_word text.now
name_viewed text = search (rules, pattern_lemmas)

pub operator_viewed : view_pattern Operator ≡ an_operator
operator_viewed = search (rules, pattern_lemmas)

pub others_viewed : view_pattern Others ≡ others
others_viewed = search (rules, pattern_lemmas)

pub at_most_one_viewed : view_pattern OneAtMost ≡ one_at_most
at_most_one_viewed = search (rules, pattern_lemmas)

-- each pattern of the code as the table has it
pub ruleset pattern_views = (inside_viewed, each_viewed, datum_viewed, symbol_viewed, name_viewed, operator_viewed, others_viewed, at_most_one_viewed)

pub inside_smaller : (x : Pattern) (r : Bor (List Pattern)) → x ≡ Inside r → patterns_size (view_patterns r.now) + 1 < pattern_size (view_pattern x)
inside_smaller x r h = omega (arith, ap (λ y. pattern_size (view_pattern y)) h, ap pattern_size (inside_viewed r))

pub each_smaller : (x : Pattern) (r : Bor (List Pattern)) → x ≡ Each r → patterns_size (view_patterns r.now) + 1 < pattern_size (view_pattern x)
each_smaller x r h = omega (arith, ap (λ y. pattern_size (view_pattern y)) h, ap pattern_size (each_viewed r))

pub inside_fit : (names : List (List ℕ)) (x : Pattern) (r : Bor (List Pattern)) (ds : List Item) → x ≡ Inside r
    → fit names (view_pattern x) ds ≡ of_one (λ es. fit_all names (view_patterns r.now) es) ds
unfolding fit
inside_fit names x r ds h =
    ap (λ y. fit names (view_pattern y) ds) h ∙ ap (λ y. fit names y ds) (inside_viewed r)

pub each_fit : (names : List (List ℕ)) (x : Pattern) (r : Bor (List Pattern)) (ds : List Item) → x ≡ Each r
    → fit names (view_pattern x) ds ≡ part_if (all_data (λ d. is_some (fit_all names (view_patterns r.now) (d ∷ []))) ds) ds
unfolding fit
each_fit names x r ds h =
    ap (λ y. fit names (view_pattern y) ds) h ∙ ap (λ y. fit names y ds) (each_viewed r)

pub counted : (xs : List Pattern) → pattern_count (view_patterns xs) ≡ length xs
counted [] = refl
counted (x ∷ xs) = omega (arith, counted xs)

-- templates

templates_listed : (xs : List Template) → templates (map view_template xs) ≡ view_templates xs
templates_listed [] = refl
templates_listed (x ∷ xs) = ap (template_and (view_template x)) (templates_listed xs)

group_level : (r : Bor (List Template)) → view_template (Group r) ≡ group (templates (map view_template r.now))
group_level r = search (rules, template_lemmas)

repeated_level : (i : ℕ) (ps : Bor (List Pattern)) (r : Bor (List Template))
    → view_template (ForEach i ps r) ≡ for_each i (view_patterns ps.now) (templates (map view_template r.now))
repeated_level i ps r = search (rules, template_lemmas)

pub group_viewed : (r : Bor (List Template)) → view_template (Group r) ≡ group (view_templates r.now)
group_viewed r = group_level r ∙ ap group (templates_listed r.now)

pub repeated_viewed : (i : ℕ) (ps : Bor (List Pattern)) (r : Bor (List Template))
    → view_template (ForEach i ps r) ≡ for_each i (view_patterns ps.now) (view_templates r.now)
repeated_viewed i ps r = repeated_level i ps r ∙ ap (for_each i (view_patterns ps.now)) (templates_listed r.now)

pub one_viewed : (i : ℕ) → view_template (One i) ≡ datum i
one_viewed i = search (rules, template_lemmas)

pub all_viewed : (i : ℕ) → view_template (All i) ≡ all_of i
all_viewed i = search (rules, template_lemmas)

pub setter_viewed : (i : ℕ) → view_template (Setter i) ≡ the_setter i
setter_viewed i = search (rules, template_lemmas)

pub quotation_viewed : (i : ℕ) → view_template (Quotation i) ≡ the_quotation i
quotation_viewed i = search (rules, template_lemmas)

pub word_viewed : (text : Bor (List ℕ)) → view_template (Word text) ≡ the_symbol text.now
word_viewed text = search (rules, template_lemmas)

pub new_viewed : (n : ℕ) → view_template (New n) ≡ new_symbol n
new_viewed n = search (rules, template_lemmas)

pub behind_viewed : (i : ℕ) → view_template (NewBehind i) ≡ new_behind i
behind_viewed i = search (rules, template_lemmas)

pub own_viewed : view_template Own ≡ own_symbol
own_viewed = search (rules, template_lemmas)

-- each template
pub ruleset template_views = (group_viewed, repeated_viewed, one_viewed, all_viewed, setter_viewed, quotation_viewed, word_viewed, new_viewed, behind_viewed, own_viewed)

pub group_smaller : (x : Template) (r : Bor (List Template)) → x ≡ Group r → templates_size (view_templates r.now) < template_size (view_template x)
group_smaller x r h = omega (arith, ap (λ y. template_size (view_template y)) h, ap template_size (group_viewed r))

pub repeated_smaller : (x : Template) (i : ℕ) (ps : Bor (List Pattern)) (r : Bor (List Template)) → x ≡ ForEach i ps r
    → templates_size (view_templates r.now) + 1 < template_size (view_template x)
repeated_smaller x i ps r h = omega (arith, ap (λ y. template_size (view_template y)) h, ap template_size (repeated_viewed i ps r))

pub group_written : (names : List (List ℕ)) (s own : ℕ) (parts : Parts) (x : Template) (r : Bor (List Template)) → x ≡ Group r
    → write names s (view_template x) own parts ≡ listed (write_all names s (view_templates r.now) own parts) ∷ []
unfolding write
group_written names s own parts x r h =
    ap (λ y. write names s (view_template y) own parts) h ∙ ap (λ y. write names s y own parts) (group_viewed r)

pub repeated_written : (names : List (List ℕ)) (s own : ℕ) (parts : Parts) (x : Template) (i : ℕ) (ps : Bor (List Pattern)) (r : Bor (List Template))
    → x ≡ ForEach i ps r
    → write names s (view_template x) own parts
    ≡ repeated names (view_patterns ps.now) (λ n found. write_all names s (view_templates r.now) n found) (part_of parts i) s
unfolding write
repeated_written names s own parts x i ps r h =
    ap (λ y. write names s (view_template y) own parts) h ∙ ap (λ y. write names s y own parts) (repeated_viewed i ps r)
