-- The graph writer.

-- ── choosing sources ──
-- the free conclusions and their table
pub mod Free
-- looking for a source among them; entering those of a node
pub mod Search
-- 14: a source for each premise
pub mod Sources
-- ── writing ──
-- the bytes of the edges
pub mod Edges
