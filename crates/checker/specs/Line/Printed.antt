-- The lines that document 01 prints, and those of its number that is refused in each file: a text, and that it is the line of its ruling.
use Rattle.std.specs.Prelude.{ℕ, List, [], ◌∷◌, false, ◌≡◌}
use Rattle.std.proofs.Math.Path.{refl}
use Rattle.rewriting.specs.Table.{passed, refused}
use Rattle.checker.specs.Line.{decimal, line_of}

-- attack 4 2 3
abbrev pub attack_4_2_3_text : List ℕ
attack_4_2_3_text = 97 ∷ 116 ∷ 116 ∷ 97 ∷ 99 ∷ 107 ∷ 32 ∷ 52 ∷ 32 ∷ 50 ∷ 32 ∷ 51 ∷ 10 ∷ []

pub attack_4_2_3 : line_of (passed record { holds = false; nodes = 4; active = 2; edges = 3 }) ≡ attack_4_2_3_text
attack_4_2_3 = unfold decimal in refl

-- refused 12 4
abbrev pub refused_12_4_text : List ℕ
refused_12_4_text = 114 ∷ 101 ∷ 102 ∷ 117 ∷ 115 ∷ 101 ∷ 100 ∷ 32 ∷ 49 ∷ 50 ∷ 32 ∷ 52 ∷ 10 ∷ []

pub refused_12_4 : line_of (refused 12 4) ≡ refused_12_4_text
refused_12_4 = unfold decimal in refl

-- attack 0 0 0
abbrev pub attack_0_0_0_text : List ℕ
attack_0_0_0_text = 97 ∷ 116 ∷ 116 ∷ 97 ∷ 99 ∷ 107 ∷ 32 ∷ 48 ∷ 32 ∷ 48 ∷ 32 ∷ 48 ∷ 10 ∷ []

pub attack_0_0_0 : line_of (passed record { holds = false; nodes = 0; active = 0; edges = 0 }) ≡ attack_0_0_0_text
attack_0_0_0 = unfold decimal in refl

-- refused 3 1
abbrev pub refused_3_1_text : List ℕ
refused_3_1_text = 114 ∷ 101 ∷ 102 ∷ 117 ∷ 115 ∷ 101 ∷ 100 ∷ 32 ∷ 51 ∷ 32 ∷ 49 ∷ 10 ∷ []

pub refused_3_1 : line_of (refused 3 1) ≡ refused_3_1_text
refused_3_1 = unfold decimal in refl

-- refused 3 2
abbrev pub refused_3_2_text : List ℕ
refused_3_2_text = 114 ∷ 101 ∷ 102 ∷ 117 ∷ 115 ∷ 101 ∷ 100 ∷ 32 ∷ 51 ∷ 32 ∷ 50 ∷ 10 ∷ []

pub refused_3_2 : line_of (refused 3 2) ≡ refused_3_2_text
refused_3_2 = unfold decimal in refl

-- refused 3 3
abbrev pub refused_3_3_text : List ℕ
refused_3_3_text = 114 ∷ 101 ∷ 102 ∷ 117 ∷ 115 ∷ 101 ∷ 100 ∷ 32 ∷ 51 ∷ 32 ∷ 51 ∷ 10 ∷ []

pub refused_3_3 : line_of (refused 3 3) ≡ refused_3_3_text
refused_3_3 = unfold decimal in refl
