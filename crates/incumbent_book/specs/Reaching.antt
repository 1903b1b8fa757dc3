-- How far the bound of a book has come.
use Rattle.std.specs.Prelude.{◌+◌, ◌≤◌, ℕ}
use Rattle.solomon_reader.specs.Bound.{ceiling_of}
use Rattle.solomon_reader.specs.History.{value_of, IsLeaf}
use Rattle.incumbent_book.specs.Contents.{Contents}

-- no leaf of the book has a lower value than this bound, which is at most the ceiling plus one
pub record IsReached (bound : ℕ) (b : Contents) : Type 0 where
  pub ceiling : bound ≤ ceiling_of b.problem + 1
  pub leaves : (m : ℕ) → IsLeaf b.past m → bound ≤ value_of b.root b.past m
