-- The text of the call program. Read in this order:
--   Text   the words of a line, and numbers in decimal
--   Rows   THE TABLE of the calls, and what a line says by it (parsed)
--   Shown  an answer's line, and what it means to put text into a buffer
-- and then what is proved of it:
--   Unbounded  make-u, and the status of either kind of queue
pub mod Text
pub mod Rows
pub mod Shown
pub mod Unbounded
