-- What the reader keeps and finds its answers by: no contract of a public call cites it.
pub mod OneLine
pub mod SoFar
