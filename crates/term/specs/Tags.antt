-- "tags are decimal": the tag of each kind of leaf and of each function.
use Rattle.std.specs.Prelude.{ℕ, ◌+◌}

-- "0 variable and its number; 1 public name and its number; 2 fresh name and its number"
abbrev pub variable_tag : ℕ
variable_tag = 0

abbrev pub public_tag : ℕ
public_tag = 1

abbrev pub fresh_tag : ℕ
fresh_tag = 2

-- "3 one; 4 enc; 5 dec; 6 h; 7 pair; 8 fst; 9 snd; 10 exp; 11 inv; 12 mul"
abbrev pub one_tag : ℕ
one_tag = 3

abbrev pub enc_tag : ℕ
enc_tag = 4

abbrev pub dec_tag : ℕ
dec_tag = 5

abbrev pub h_tag : ℕ
h_tag = 6

abbrev pub pair_tag : ℕ
pair_tag = 7

abbrev pub fst_tag : ℕ
fst_tag = 8

abbrev pub snd_tag : ℕ
snd_tag = 9

abbrev pub exp_tag : ℕ
exp_tag = 10

abbrev pub inv_tag : ℕ
inv_tag = 11

abbrev pub mul_tag : ℕ
mul_tag = 12

-- the tags of functions begin here; "13+j free function j (j from 0)"
abbrev pub first_function : ℕ
first_function = one_tag

abbrev pub first_free : ℕ
first_free = 13

-- "count of free functions (16)"
abbrev pub most_functions : ℕ
most_functions = 16

-- Change 4: "29 aenc, 30 adec, 31 pk, 32 sign, 33 verify, 34 true"
abbrev pub aenc_tag : ℕ
aenc_tag = 29

abbrev pub adec_tag : ℕ
adec_tag = 30

abbrev pub pk_tag : ℕ
pk_tag = 31

abbrev pub sign_tag : ℕ
sign_tag = 32

abbrev pub verify_tag : ℕ
verify_tag = 33

abbrev pub true_tag : ℕ
true_tag = 34

-- as many tags as there can be
abbrev pub tag_count : ℕ
tag_count = first_free + most_functions + 6
