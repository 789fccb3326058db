-- The tree of a thin source: declarations, and then assignments and prints of sums of products.
use Rattle.std.specs.Prelude.{ℕ, ℤ, List}

-- a number or a name
pub data Atom : Type 0 where
  number : ℕ → Atom
  name : List ℕ → Atom

-- factors, from left to right
pub record Product : Type 0 where
  pub first : Atom
  pub more : List Atom

-- how a term joins a sum
pub data Sign : Type 0 where
  plus : Sign
  minus : Sign

-- terms, from left to right
pub record Sum : Type 0 where
  pub first : Product
  pub more : List (Sign × Product)

-- `name := sum;` and `print sum;`
pub data Statement : Type 0 where
  assign : List ℕ → Sum → Statement
  print : Sum → Statement

-- `var name: low..high;`
pub record Declaration : Type 0 where
  pub name : List ℕ
  pub low : ℤ
  pub high : ℤ

pub record Program : Type 0 where
  pub declarations : List Declaration
  pub statements : List Statement
