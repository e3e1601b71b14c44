mod FrameLemmas
mod KeyLemmas
mod PutLemmas
mod ReportLemmas
mod StatusLemmas
