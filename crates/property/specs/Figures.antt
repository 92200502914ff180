-- The figures of a property file, each under its words in document 01.
use Rattle.std.specs.Prelude.{ℕ, suc}

-- "tags 0 false; 1 equal, 2 unequal (two terms); 3 before, 4 not before, 5 same time, 6 not same time (two time variables); 7 action,
-- 8 no action (fact, time variable); 9 and, 10 or; 11 exists, 12 for all": an atom's odd tag, and the next one for its denial
abbrev pub false_tag : ℕ
false_tag = 0

abbrev pub equal_tag : ℕ
equal_tag = 1

abbrev pub before_tag : ℕ
before_tag = 3

abbrev pub same_time_tag : ℕ
same_time_tag = 5

abbrev pub action_tag : ℕ
action_tag = 7

abbrev pub and_tag : ℕ
and_tag = 9

abbrev pub or_tag : ℕ
or_tag = 10

abbrev pub exists_tag : ℕ
exists_tag = 11

abbrev pub every_tag : ℕ
every_tag = 12

abbrev pub formula_tags : ℕ
formula_tags = suc every_tag

-- "a count of new variables (8), each sort (0 message, 3 time)"
abbrev pub most_new : ℕ
most_new = 8

abbrev pub time_sort : ℕ
time_sort = 3

-- "16 in scope; nesting at most 16"
abbrev pub most_scope : ℕ
most_scope = 16

abbrev pub most_nesting : ℕ
most_nesting = 16

-- "Only tags 0 and 1 stand for terms here."
abbrev pub term_tags : ℕ
term_tags = 2
