-- What is proved of the table of subterm rules.
-- its rows are fit, and it agrees with the figure and with the words of the canonical form
pub mod Laws
