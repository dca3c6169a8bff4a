mod DigitLemmas
mod FormLemmas
mod Order
mod PacketLemmas
mod PieceLemmas
mod SaidLemmas
