-- The bytes of a product in the order in which they are written.
use Rattle.std.specs.Prelude.{ℕ, zero, suc, ◌-◌, Bool, true, false, List, [], ◌∷◌, ◌++◌}
use Rattle.term.specs.Tags.{inv_tag, mul_tag}
use Rattle.term.specs.Term.{Terms, nil, ◌&◌, encode}
use Rattle.message.specs.Product.{ups}
use Rattle.message.specs.Parts.{neg}
use Rattle.message.specs.Gather.{gather}
-- they are the bytes of the term
pub mod Laws

-- n times a factor's bytes, each behind the tag of mul
unfoldable pub repeated : ℕ → List ℕ → List ℕ
repeated zero x = []
repeated (suc n) x = (mul_tag ∷ x) ++ repeated n x

-- n times a factor's bytes: the last without a tag, unless more comes
unfoldable pub copies : ℕ → List ℕ → Bool → List ℕ
copies n x true = repeated n x
copies n x false = repeated (n - 1) x ++ x

-- "P = mul(first, rest)": factors one behind the other, each but the last behind a tag
unfoldable pub row : Terms → List ℕ
row nil = []
row (t & nil) = encode t
row (t & (u & us)) = (mul_tag ∷ encode t) ++ row (u & us)

-- "The result is P, inv(N), mul(P, inv(N))"; nothing where both are empty
unfoldable pub sides : Terms → Terms → List ℕ
sides nil nil = []
sides (p & ps) nil = row (p & ps)
sides nil (n & ns) = inv_tag ∷ row (n & ns)
sides (p & ps) (n & ns) = (mul_tag ∷ row (p & ps)) ++ (inv_tag ∷ row (n & ns))

-- the product of some terms
unfoldable pub written : Terms → List ℕ
written ts = sides (ups (gather ts)) (ups (neg (gather ts)))
