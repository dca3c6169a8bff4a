mod ArgLemmas
mod BareLemmas
mod EncloseLemmas
mod MarkLemmas
mod OpeningLemmas
mod PartLemmas
mod SpanLemmas
mod StatementLemmas
