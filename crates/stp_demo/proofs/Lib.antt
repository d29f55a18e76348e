mod JoinedTexts
mod Lines
