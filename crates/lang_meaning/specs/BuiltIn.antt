-- The built-in classes (ISO/IEC 13816:2007, 15 and 29.3): their precedence lists and slots, each at its number.
use Rattle.std.specs.Prelude.{ℕ, List, [], ◌∷◌, codes}

-- the precedence lists, from `<object>` on
abbrev pub built_in_precedence : List (List ℕ)
built_in_precedence =
    -- <object>, <basic-array>, <basic-vector>, <general-vector>, <string>
    (0 ∷ []) ∷ (1 ∷ 0 ∷ []) ∷ (2 ∷ 1 ∷ 0 ∷ []) ∷ (3 ∷ 2 ∷ 1 ∷ 0 ∷ []) ∷ (4 ∷ 2 ∷ 1 ∷ 0 ∷ []) ∷
    -- <character>, <function>, <generic-function>
    (5 ∷ 0 ∷ []) ∷ (6 ∷ 0 ∷ []) ∷ (7 ∷ 6 ∷ 0 ∷ []) ∷
    -- <list>, <cons>, <symbol>, <null>
    (8 ∷ 0 ∷ []) ∷ (9 ∷ 8 ∷ 0 ∷ []) ∷ (10 ∷ 0 ∷ []) ∷ (11 ∷ 10 ∷ 8 ∷ 0 ∷ []) ∷
    -- <number>, <integer>, <stream>
    (12 ∷ 0 ∷ []) ∷ (13 ∷ 12 ∷ 0 ∷ []) ∷ (14 ∷ 0 ∷ []) ∷
    -- <built-in-class>, <standard-class>, <standard-object>
    (15 ∷ 0 ∷ []) ∷ (16 ∷ 0 ∷ []) ∷ (17 ∷ 0 ∷ []) ∷
    -- <serious-condition>, <error>, <storage-exhausted>
    (18 ∷ 0 ∷ []) ∷ (19 ∷ 18 ∷ 0 ∷ []) ∷ (20 ∷ 18 ∷ 0 ∷ []) ∷
    -- <arithmetic-error>, <control-error>, <parse-error>, <program-error>, <simple-error>, <stream-error>
    (21 ∷ 19 ∷ 18 ∷ 0 ∷ []) ∷ (22 ∷ 19 ∷ 18 ∷ 0 ∷ []) ∷ (23 ∷ 19 ∷ 18 ∷ 0 ∷ []) ∷
    (24 ∷ 19 ∷ 18 ∷ 0 ∷ []) ∷ (25 ∷ 19 ∷ 18 ∷ 0 ∷ []) ∷ (26 ∷ 19 ∷ 18 ∷ 0 ∷ []) ∷
    -- <division-by-zero>, <integer-overflow>
    (27 ∷ 21 ∷ 19 ∷ 18 ∷ 0 ∷ []) ∷ (28 ∷ 21 ∷ 19 ∷ 18 ∷ 0 ∷ []) ∷
    -- <domain-error>, <undefined-entity>, <unbound-variable>, <undefined-function>
    (29 ∷ 24 ∷ 19 ∷ 18 ∷ 0 ∷ []) ∷ (30 ∷ 24 ∷ 19 ∷ 18 ∷ 0 ∷ []) ∷
    (31 ∷ 30 ∷ 24 ∷ 19 ∷ 18 ∷ 0 ∷ []) ∷ (32 ∷ 30 ∷ 24 ∷ 19 ∷ 18 ∷ 0 ∷ []) ∷
    -- <end-of-stream>
    (33 ∷ 26 ∷ 19 ∷ 18 ∷ 0 ∷ []) ∷ []

-- how many slots each has: <simple-error> and <domain-error> two, <undefined-entity> and those below it one
abbrev pub built_in_slots : List ℕ
built_in_slots =
    0 ∷ 0 ∷ 0 ∷ 0 ∷ 0 ∷ 0 ∷ 0 ∷ 0 ∷ 0 ∷ 0 ∷ 0 ∷ 0 ∷ 0 ∷ 0 ∷ 0 ∷ 0 ∷ 0 ∷ 0 ∷ 0 ∷ 0 ∷ 0 ∷
    0 ∷ 0 ∷ 0 ∷ 0 ∷ 2 ∷ 0 ∷ 0 ∷ 0 ∷ 2 ∷ 1 ∷ 1 ∷ 1 ∷ 0 ∷ []

-- the names, each at its number
abbrev pub class_texts : List (List ℕ)
class_texts =
    codes "<object>" ∷ codes "<basic-array>" ∷ codes "<basic-vector>" ∷ codes "<general-vector>" ∷
    codes "<string>" ∷ codes "<character>" ∷ codes "<function>" ∷ codes "<generic-function>" ∷
    codes "<list>" ∷ codes "<cons>" ∷ codes "<symbol>" ∷ codes "<null>" ∷
    codes "<number>" ∷ codes "<integer>" ∷ codes "<stream>" ∷ codes "<built-in-class>" ∷
    codes "<standard-class>" ∷ codes "<standard-object>" ∷ codes "<serious-condition>" ∷ codes "<error>" ∷
    codes "<storage-exhausted>" ∷ codes "<arithmetic-error>" ∷ codes "<control-error>" ∷ codes "<parse-error>" ∷
    codes "<program-error>" ∷ codes "<simple-error>" ∷ codes "<stream-error>" ∷ codes "<division-by-zero>" ∷
    codes "<integer-overflow>" ∷ codes "<domain-error>" ∷ codes "<undefined-entity>" ∷ codes "<unbound-variable>" ∷
    codes "<undefined-function>" ∷ codes "<end-of-stream>" ∷ []
